use Rattle.directory.specs.Entries.{weigh_next}
use native.Mathlib.Omega.{arith}
use Rattle.directory.proofs.Rule.hash.Goals as goal

pub loop-i-preserved : goal.loop-i-preserved
loop-i-preserved c = (weigh_next _ _ _ _ _ _ _ c.loop-i.invariant.0 c.wide-in-loop-i.ensures.0 c.upper.ensures.0 c.times-sum-in-loop-i.ensures.0 c.times-sum-in-loop-i.ensures.1, (let z = c.loop-i-test.true in omega arith))
