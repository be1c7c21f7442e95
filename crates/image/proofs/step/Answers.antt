use Rattle.image.proofs.Laws.{step_made, step_full, not_yet}
use Rattle.image.proofs.step.Goals as goal

pub returns-in_default : goal.returns-in_default
returns-in_default c = rw c.in_default.is (not_yet _ _)

pub returns-then-left-gt0 : goal.returns-then-left-gt0
returns-then-left-gt0 c = rw c.in-Some.is (step_made _ _ _ _ c.if-left-gt0.true c.store_at.ensures)

pub returns : goal.returns
returns c = rw c.in-Some.is (step_full _ _ _ c.if-left-gt0.false)
