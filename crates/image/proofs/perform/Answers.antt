use mathlib.Core.Path.{refl}
use Rattle.image.proofs.Laws.{not_yet, next}
use Rattle.image.proofs.perform.Goals as goal

pub loop-s-init : goal.loop-s-init
loop-s-init c = not_yet _ _

pub loop-s-preserved : goal.loop-s-preserved
loop-s-preserved c = next _ _ c.loop-s-test.true refl c.loop-s.invariant c.step-left.ensures
