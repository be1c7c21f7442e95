use Rattle.std.proofs.Math.Path.{ap, subst}
use Rattle.std.proofs.Common.{◌∙◌}
use mathlib.Core.List.{[], ◌∷◌}
use native.Mathlib.Omega.{arith}
use Rattle.image.specs.View.{Rec, Store}
use Rattle.image.specs.Saves.{Applied}
use Rattle.image.proofs.Laws.{step_full}
use Rattle.volume.specs.Plans.{st}
use Rattle.repair.proofs.relink.Goals as goal

pub returns-then-left-lt1 : goal.returns-then-left-lt1
returns-then-left-lt1 c = step_full _ _ _ (omega (arith, c.if-left-lt1.true))

pub returns : goal.returns
returns c = subst (λ (s : Store). Applied c.args.left (s ∷ []) c.args.img.now c.step.new.img c.step.result) (c.saved.ensures.0 ∙ ap (λ (r : Rec). st c.args.b r) c.relinked-x.ensures) c.step.ensures
