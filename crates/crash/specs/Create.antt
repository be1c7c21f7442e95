-- Create needs a second free block, which becomes the first: it is in the partition, not owned, and another than the new file's.
use Rattle.std.specs.Prelude.{◌≡◌, ◌≢◌, false, length}
use Rattle.std.proofs.Math.Path.{sym}
use Rattle.std.proofs.Common.{arith}
use Rattle.std.proofs.Math.Bool.{true}
use Prim.Native.Nat.{ℕ, ◌<◌}
use Rattle.image.specs.View.{View}
use Rattle.volume.specs.Files.{inside, owned, free, sound}
use Rattle.volume.specs.declared.Partition.{Partition}
use Rattle.volume.specs.Plans.{free_at}
use Rattle.frame.specs.Taking.{taken, differ}

module _ (π : Partition) (v : View) (ok : sound π v ≡ true) (room : 1 < length (free π v)) (kind : ℕ) where
  pub n_in : inside π (free_at π v 1) ≡ true
  n_in = (taken π v ok 2 room 1 (omega arith)).0

  pub n_free : owned π v (free_at π v 1) ≡ false
  n_free = (taken π v ok 2 room 1 (omega arith)).1

  pub n≢a : free_at π v 1 ≢ free_at π v 0
  n≢a z = differ π v ok 2 room 0 1 (omega arith) (omega arith) (sym z)
