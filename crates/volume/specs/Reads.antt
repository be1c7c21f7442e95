-- What a good partition gives the code that goes on with it.
use Rattle.std.specs.Prelude.{◌≡◌, List, true, ℕ, ◌+◌, ◌-◌, ◌*◌, ◌/◌, ◌≤◌, ◌<◌, length}
use Rattle.image.specs.Image.{view}
use Rattle.volume.specs.declared.Partition.{Partition}
use Rattle.volume.specs.Answers.{image_good, part_good, end_of}

-- what a good partition gives the code that goes on with it
pub record Lies (π : Partition) (l : List ℕ) : Type 0 where
  pub known : π.drive ≤ 3
  pub start : 1 ≤ π.s
  pub order : π.s < π.e
  pub within : 528 * π.e + 528 ≤ length l
  pub few : π.e < 69552
  pub small : π.e - π.s < 32767

-- a good partition passed its tests, and ends where the PIB says
pub record GoodPart (d : ℕ) (l : List ℕ) (s e : ℕ) : Type 0 where
  pub image : image_good d (length l) ≡ true
  pub part : part_good d (length l / 528) (view l) s ≡ true
  pub end : end_of d (view l) s ≡ e
