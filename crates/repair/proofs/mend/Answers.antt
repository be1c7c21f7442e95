use native.Mathlib.Omega.{arith}
use Rattle.repair.specs.Mending.{mend_starts, mend_turn, mend_next}
use Rattle.repair.proofs.mend.Goals as goal

pub loop-b-init : goal.loop-b-init
loop-b-init c = (omega (arith, c.requires.0.lies.order), mend_starts _ _ _ _ _ c.requires.0 c.requires.1 (omega arith))

pub turn-t-requires : goal.turn-t-requires
turn-t-requires c = mend_turn c.loop-b.invariant.1 _ c.requires.1 (omega arith)

pub loop-b-preserved : goal.loop-b-preserved
loop-b-preserved c = (omega arith, mend_next c.loop-b.invariant.1 (λ i. omega (arith, c.slice_known-1.given i)) (omega arith) c.turn-t.ensures)
