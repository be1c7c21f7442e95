-- What it is for a file to be the same in two views: there in both or in neither, with the same blocks in link order, the same bytes, kind
-- and description. And that a file's blocks are there.
use Rattle.std.specs.Prelude.{◌≡◌, true, ℕ, ◌+◌, ◌≤◌, ◌<◌}
use Rattle.std.proofs.Common.{arith}
use Rattle.image.specs.View.{View}
use Rattle.volume.specs.Words.{kind_at}
use Rattle.volume.specs.Keys.{home}
use Rattle.volume.proofs.KeyLaws.{first_data}
use Rattle.volume.specs.Files.{len, present, spot, is_file}
use Rattle.volume.specs.declared.Partition.{Partition}
use Rattle.volume.proofs.Index.{wf_of, file_formed}

-- f is a file in both views or in neither; as a file it has the same keys in the same blocks, and the same bytes, kind and description
pub record SameFile (π : Partition) (v v' : View) (f : ℕ) : Type 0 where
  pub is : is_file π v f ≡ is_file π v' f
  pub long : is_file π v f ≡ true → len v f ≡ len v' f
  pub keys : is_file π v f ≡ true → (k : ℕ) → present π v f k ≡ present π v' f k
  pub blocks : is_file π v f ≡ true → (k : ℕ) → present π v f k ≡ true → spot π v f k ≡ spot π v' f k
  pub bytes : is_file π v f ≡ true → (k : ℕ) → home < k → present π v f k ≡ true → (w : ℕ) → 8 ≤ w → v (spot π v f k) w ≡ v' (spot π v' f k) w
  pub kind : is_file π v f ≡ true → v f kind_at ≡ v' f kind_at
  pub text : is_file π v f ≡ true → (w : ℕ) → 8 ≤ w → w < 60 → v f w ≡ v' f w

abbrev pub SameFiles : Partition → View → View → Type 0
SameFiles π v v' = (f : ℕ) → SameFile π v v' f

-- block r of a file is present
pub data_here : (π : Partition) (v : View) (f : ℕ) → is_file π v f ≡ true → (r : ℕ) → r < len v f → present π v f (292 + r) ≡ true
data_here π v f i r l = (wf_of π v f (file_formed π v f i)).full (292 + r) (omega (arith, first_data (292 + r) (omega arith)))
