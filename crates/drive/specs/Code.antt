-- One rule for every kind of address on every drive. A code numbers places: place x is sector x mod sectors of a track, and so on
-- up, and its number is its cylinder, track and sector, each times its unit, plus the first sector's number. Block b is place
-- b + offset. A number is decoded by guessing the only place that can have it, numbering that place again and comparing.
use Rattle.std.specs.Prelude.{Bool, ℕ, ◌+◌, ◌-◌, ◌*◌, ◌/◌, ◌%◌, ◌<◌, ◌≤◌, ltb, eqb}
use Rattle.base.specs.Tests.{both}

-- how many blocks, and the place of the first; tracks a cylinder and sectors a track; the first sector's number, and the units
pub record Code : Type 0 where
  pub count : ℕ
  pub offset : ℕ
  pub tracks : ℕ
  pub sectors : ℕ
  pub first : ℕ
  pub step : ℕ
  pub track : ℕ
  pub cylinder : ℕ

-- count numbers in a row, unit apart, the first of them offset units from 0
abbrev pub line : ℕ → ℕ → ℕ → Code
line count offset unit =
    record { count = count; offset = offset; tracks = 1; sectors = 1; first = 0; step = unit; track = unit; cylinder = unit }

-- the number of place x: its cylinder, track and sector, each times its unit
unfoldable pub place_number : Code → ℕ → ℕ
place_number k x =
    x / k.sectors / k.tracks * k.cylinder + (x / k.sectors % k.tracks * k.track + (x % k.sectors * k.step + k.first))

-- the only place whose number p can be
unfoldable pub guess : Code → ℕ → ℕ
guess k p = (p / k.cylinder * k.tracks + p % k.cylinder / k.track) * k.sectors + p % k.cylinder % k.track / k.step

-- the address of block b; the only block that can have the address p
abbrev pub encode : Code → ℕ → ℕ
encode k b = place_number k (b + k.offset)

abbrev pub decode : Code → ℕ → ℕ
decode k p = guess k p - k.offset

-- whether p is the address of a block
abbrev pub decodes : Code → ℕ → Bool
decodes k p = both (ltb (decode k p) k.count) (eqb (encode k (decode k p)) p)

-- what the numbers of a code must be for all this to work
pub record Good (k : Code) : Type 0 where
  pub some_sector : 0 < k.sectors
  pub some_track : 0 < k.tracks
  pub first_below : k.first < k.step
  pub sectors_fit : k.sectors * k.step ≤ k.track
  pub tracks_fit : k.tracks * k.track ≤ k.cylinder
