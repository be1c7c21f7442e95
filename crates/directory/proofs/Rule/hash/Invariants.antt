use Rattle.directory.specs.Entries.{Weighed}
use Prim.Native.Nat.{◌-◌, ◌≤◌}
use lib.ListN.{length}
use Rattle.directory.proofs.Rule.hash.Given as goal

abbrev pub invariant-loop-i : goal.invariant-loop-i
invariant-loop-i l = (Weighed l.self.weights.now l.x l.i l.sum) × (l.i ≤ length l.x)

abbrev pub decreases-loop-i : goal.decreases-loop-i
decreases-loop-i l = length l.x - l.i
