-- The numbers of the four drives, one row for each, and the three codes of a row.
use Rattle.std.specs.Prelude.{ℕ, ◌*◌, eqb}
use Rattle.base.specs.Tests.{pick}
use Rattle.drive.specs.Code.{Code, line}

-- blocks; places before the first block; tracks a cylinder, sectors a track; the first sector's number, and the units of sector,
-- track and cylinder; the LDA of block 0 in units of 256; how many FileIDs, and the first
pub record Row : Type 0 where
  pub blocks : ℕ
  pub boot : ℕ
  pub tracks : ℕ
  pub sectors : ℕ
  pub first : ℕ
  pub step : ℕ
  pub track : ℕ
  pub cylinder : ℕ
  pub lda : ℕ
  pub ids : ℕ
  pub id : ℕ

abbrev pub row : ℕ → ℕ → ℕ → ℕ → ℕ → ℕ → ℕ → ℕ → ℕ → ℕ → ℕ → Row
row blocks boot tracks sectors first step track cylinder lda ids id =
    record {
      blocks = blocks;
      boot = boot;
      tracks = tracks;
      sectors = sectors;
      first = first;
      step = step;
      track = track;
      cylinder = cylinder;
      lda = lda;
      ids = ids;
      id = id;
    }

-- Shugart 12 MB and 24 MB, Micropolis 35 MB, the single-sided floppy: bits 14 and 15 of an LDA's high word are set, and on a
-- floppy bit 13 too; a FileID is the LBN, below 57,344, and on a floppy 57,344 more
abbrev pub shugart12 : Row
shugart12 = row 24210 30 4 30 0 1 32 256 (0o140000 * 256) 24210 0

abbrev pub shugart24 : Row
shugart24 = row 48450 30 8 30 0 1 32 256 (0o140000 * 256) 48450 0

abbrev pub micropolis : Row
micropolis = row 69552 48 5 24 0 1 256 65536 (0o140000 * 256) 57344 0

abbrev pub floppy : Row
floppy = row 432 30 1 6 3 4 65536 65536 (0o160000 * 256) 432 57344

-- F of the row of drive d; any drive from 3 up is taken for the floppy here, and drives above 3 are refused before
unfoldable pub on_drive : {A : Type 0} → (Row → A) → ℕ → A
on_drive F d = pick (eqb d 0) (F shugart12) (pick (eqb d 1) (F shugart24) (pick (eqb d 2) (F micropolis) (F floppy)))

-- the codes of physical addresses, logical addresses and FileIDs
abbrev pub pda_code : Row → Code
pda_code g =
    record {
      count = g.blocks;
      offset = g.boot;
      tracks = g.tracks;
      sectors = g.sectors;
      first = g.first;
      step = g.step;
      track = g.track;
      cylinder = g.cylinder;
    }

abbrev pub lda_code : Row → Code
lda_code g = line g.blocks g.lda 256

abbrev pub id_code : Row → Code
id_code g = line g.ids g.id 1
