-- What a write of a block begins with, and what it did, from one view to another.
use Rattle.std.specs.Prelude.{◌≡◌, true, ℕ, suc, ◌-◌, ◌≤◌, ◌<◌}
use Rattle.std.proofs.Math.ListN.{length}
use Rattle.image.specs.View.{View, Rec}
use Rattle.volume.specs.Words.{kind_at}
use Rattle.volume.specs.Keys.{home, reach}
use Rattle.volume.specs.Files.{candidate, is_file, len, spot, present, free, sound}
use Rattle.volume.specs.declared.Partition.{Partition}
use Rattle.volume.specs.Writes.{over, needs, present', spot'}

-- a sound partition, a file, block r behind its last one, and more free blocks than it takes
pub record Writing (π : Partition) (v : View) (f r : ℕ) : Type 0 where
  pub ok : sound π v ≡ true
  pub cf : candidate π v f ≡ true
  pub next : r ≡ len v f
  pub far : r < reach
  pub enough : needs π v f r < length (free π v)

-- what a write of dat into block r of f did, from the view v to X
pub record Grew (π : Partition) (v : View) (f r : ℕ) (dat : Rec) (X : View) : Type 0 where
  pub file : is_file π X f ≡ true
  pub length : len X f ≡ suc r
  pub there : (k : ℕ) → present π X f k ≡ present' π v f r k
  pub where_is_at : (k : ℕ) → present' π v f r k ≡ true → spot π X f k ≡ spot' π v f r k
  pub wrote : (w : ℕ) → 8 ≤ w → X (spot' π v f r (over r 0)) w ≡ dat (w - 8)
  pub bytes : (k : ℕ) → home < k → present π v f k ≡ true → (w : ℕ) → 8 ≤ w → X (spot π v f k) w ≡ v (spot π v f k) w
  pub kept : (k : ℕ) → present π v f k ≡ true → spot π X f k ≡ spot π v f k
  pub text : (w : ℕ) → 8 ≤ w → w < 60 → X f w ≡ v f w
  pub kind : X f kind_at ≡ v f kind_at
