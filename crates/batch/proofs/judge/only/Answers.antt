-- The turn of a block that is good, or not: it is the second one, the first one, or none; and behind the last block the one found is it.
use Rattle.std.proofs.Common.{sym}
use Rattle.batch.specs.Found.{only}
use Rattle.batch.proofs.Laws.{second, hit, miss, ends}
use Rattle.batch.proofs.judge.only.Goals as goal
use Rattle.batch.proofs.judge.only.Goals.{then-is_good+else-is_some, else-is_good}

pub returns-then-is_some : goal.returns-then-is_some
unfolding only
returns-then-is_some c = second c.loop-s.invariant c.loop-s-test.true (sym c.if-is_good.ensures) (sym c.if-is_some.ensures)

pub loop-s-preserved : goal.loop-s-preserved
loop-s-preserved c =
    elim c.if-is_good.branch [
      | then-is_good+else-is_some w ↦
          rw w.found-is (hit c.loop-s.invariant c.loop-s-test.true (sym w.if-is_good.ensures) (sym w.if-is_some.ensures))
      | else-is_good w ↦ rw w.found-is (miss c.loop-s.invariant c.loop-s-test.true (sym w.if-is_good.ensures))
    ]

pub returns : goal.returns
unfolding only
returns c = ends c.loop-s.invariant c.loop-s-test.false
