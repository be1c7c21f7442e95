use Prim.Native.Nat.{◌-◌}
use Rattle.extract.proofs.Laws.{Copied}
use Rattle.extract.proofs.copy_blocks.Given as goal

abbrev pub invariant-loop-r : goal.invariant-loop-r
invariant-loop-r l = Copied l.file.volume.p l.file.volume.img.now l.file.f l.k l.buf l.r

abbrev pub decreases-loop-r : goal.decreases-loop-r
decreases-loop-r l = l.k - l.r
