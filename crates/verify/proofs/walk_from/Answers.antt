use Rattle.verify.proofs.Free.{walk_out, walk_bad, walk_end, walk_on}
use Rattle.verify.proofs.walk_from.Goals as goal

pub loop-n-preserved : goal.loop-n-preserved
loop-n-preserved c = walk_on c.loop-n.invariant c.loop-n-test.true c.step_at.ensures c.in-On.is c.pair-own.ensures.0

pub returns-after-loop-n : goal.returns-after-loop-n
returns-after-loop-n c = walk_out c.loop-n.invariant c.loop-n-test.false

pub returns-in-Bad : goal.returns-in-Bad
returns-in-Bad c = walk_bad c.loop-n.invariant c.loop-n-test.true c.step_at.ensures c.in-Bad.is

pub returns-in-End : goal.returns-in-End
returns-in-End c = walk_end c.loop-n.invariant c.loop-n-test.true c.step_at.ensures c.in-End.is
