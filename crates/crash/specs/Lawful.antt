-- What a lawful store is: it lies in the partition, its record is one of words, and of the PIB it leaves all that stands behind NumberFree,
-- the partition's start and end among it. Every store of every call is one.
use Rattle.std.specs.Prelude.{◌≡◌, ℕ, ◌≤◌, ◌<◌}
use Rattle.image.specs.View.{View, Rec}
use Rattle.image.specs.Stores.{Fits}
use Rattle.volume.specs.declared.Partition.{Partition}

-- a partition in its place on a drive, in a view of records
pub record Placed (π : Partition) (v : View) : Type 0 where
  pub low : π.s < π.e
  pub pos : 0 < π.s
  pub few : π.e < 69552
  pub fits : (b : ℕ) → Fits (v b)

-- the first word of the PIB that no call changes
abbrev pub fixed_from : ℕ
fixed_from = 14

pub record Lawful (π : Partition) (v : View) (b : ℕ) (r : Rec) : Type 0 where
  pub from : π.s ≤ b
  pub to : b ≤ π.e
  pub fits : Fits r
  pub pib : b ≡ π.s → (w : ℕ) → fixed_from ≤ w → r w ≡ v π.s w
