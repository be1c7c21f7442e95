use mathlib.Core.Path.{ap, subst, ◌∙◌}
use native.Mathlib.Omega.{arith}
use Rattle.std.specs.Prelude.{Ok}
use Rattle.perq.specs.Fits.{OutcomeFits}
use Rattle.perq.proofs.flat_from.Goals as goal

pub came_to-requires : goal.came_to-requires
came_to-requires c =
    let q = c.in-Ok-Some.is ∙ ap Ok (rw c.in-Ok-Some.is at c.in-Ok-Some.field-0-is) in
    let h = subst OutcomeFits q c.requires in
    (omega arith, h.0, h.1, c.image_number-image.ensures.1)

pub refused-requires : goal.refused-requires
refused-requires c = (subst OutcomeFits c.in-Err.is c.requires, omega arith, c.image_number-image.ensures.1)

pub returns-in-Ok-Some : goal.returns-in-Ok-Some
returns-in-Ok-Some c =
    rw (c.in-Ok-Some.is ∙ ap Ok (rw c.in-Ok-Some.is at c.in-Ok-Some.field-0-is), ← c.image_number-image.ensures.0) c.came_to.ensures

pub returns-in-Ok-None : goal.returns-in-Ok-None
returns-in-Ok-None c =
    rw (c.in-Ok-None.is ∙ ap Ok (rw c.in-Ok-None.is at c.in-Ok-None.field-0-is), ← c.image_number-image.ensures.0) c.came_to-in-Ok-None.ensures

pub returns-in-Err : goal.returns-in-Err
returns-in-Err c = rw (c.in-Err.is, ← c.image_number-image.ensures.0) c.refused.ensures
