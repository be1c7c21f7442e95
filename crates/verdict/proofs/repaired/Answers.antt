use Rattle.std.specs.Prelude.{Ok}
use mathlib.Core.Path.{◌∙◌, ap}
use native.Mathlib.Omega.{arith}
use Rattle.verdict.specs.Choice.{choice, mended}
use Rattle.verdict.proofs.Laws.{repaired_is}
use Rattle.verdict.proofs.repaired.Goals as goal

pub returns-in-Ok-Some : goal.returns-in-Ok-Some
returns-in-Ok-Some c =
    let z = repaired_is _ _ c.repair-answer.ensures (omega arith) _ (c.in-Ok-Some.is ∙ ap Ok (rw c.in-Ok-Some.is at c.in-Ok-Some.field-0-is)) in
    (c.mended.ensures ∙ ap (mended _) (c.choice.ensures ∙ ap choice c.check.ensures) ∙ z.0, z.1)

pub returns-in-Ok-None : goal.returns-in-Ok-None
returns-in-Ok-None c = repaired_is _ _ c.repair-answer.ensures (omega arith) _ (c.in-Ok-None.is ∙ ap Ok (rw c.in-Ok-None.is at c.in-Ok-None.field-0-is))

pub returns-in-Err : goal.returns-in-Err
returns-in-Err c = repaired_is _ _ c.repair-answer.ensures (omega arith) _ c.in-Err.is
