-- What code that opens a partition or a file has of it, and code that reads a file's index.
use Rattle.std.specs.Prelude.{◌≡◌, List, true, ℕ, ◌≤◌, Ok, Err}
use Rattle.base.specs.declared.Refusal.{Refusal}
use Rattle.image.specs.View.{View}
use Rattle.image.specs.Image.{view}
use Rattle.volume.specs.Keys.{reach}
use Rattle.volume.specs.Files.{candidate, len, well_formed}
use Rattle.volume.specs.Outcome.{Outcome}
use Rattle.volume.specs.Answers.{partition, of_file}
use Rattle.volume.specs.declared.Partition.{Partition}
use Rattle.volume.specs.Reads.{Lies}
use Rattle.inspect.specs.Form.{index_good}

-- ρ in the image m is the partition of drive d at s, in the image l
abbrev pub IsPartition : ℕ → List ℕ → ℕ → Partition → List ℕ → Type 0
IsPartition d l s ρ m = (partition d l s ≡ Ok ρ.e) × (ρ.drive ≡ d) × (ρ.s ≡ s) × (m ≡ l)

-- block g of ρ in the image m is block f of π in the image l, and that a file
abbrev pub IsFileAt : Partition → List ℕ → ℕ → Partition → List ℕ → ℕ → Type 0
IsFileAt π l f ρ m g = (candidate π (view l) f ≡ true) × (well_formed π (view l) f ≡ true) × (ρ ≡ π) × (m ≡ l) × (g ≡ f)

-- why a call of the file f is refused, whatever it would come to
abbrev pub IsNoFile : Partition → View → ℕ → Refusal → Type 0
IsNoFile π v f why = (k : Outcome) → of_file π v f k ≡ Err why

-- block f lies in a good partition, and is well formed
pub record Opened (π : Partition) (l : List ℕ) (f : ℕ) : Type 0 where
  pub lies : Lies π l
  pub here : f ≤ π.e
  pub formed : well_formed π (view l) f ≡ true

-- block f lies in a good partition, and the index of its L + 1 blocks is good
pub record Readable (π : Partition) (l : List ℕ) (f : ℕ) : Type 0 where
  pub lies : Lies π l
  pub here : f ≤ π.e
  pub short : len (view l) f ≤ reach
  pub good : index_good π (view l) f (len (view l) f) ≡ true
