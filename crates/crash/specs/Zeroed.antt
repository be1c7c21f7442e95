-- What an all-zero partition with Start and End set is, and the fresh one that repair makes of it: it is sound, has no file, and s+1, s+2,
-- .. e are free in this order. On every drive, for every s and e, and whatever the reserved bits of Start and End.
use Rattle.std.specs.Prelude.{◌≡◌, List, [], ℕ, suc, ◌-◌, ◌≤◌, ◌<◌, eqb, Some, Ok}
use Rattle.std.proofs.Math.Bool.{true}
use Rattle.base.specs.Tests.{pick, tab_from}
use Rattle.drive.specs.Address.{lda}
use Rattle.image.specs.View.{View, Rec, pair, put2, blank}
use Rattle.volume.specs.Words.{serial_at, relative_at, filler_at, free_head_at, free_tail_at, number_free_at, partition_start_at, partition_end_at}
use Rattle.volume.specs.Files.{files, free, sound}
use Rattle.volume.specs.declared.Partition.{Partition}
use Rattle.volume.specs.Plans.{as_filler}
use Rattle.volume.specs.Answers.{check_in}

-- the records of the partition: the PIB with x as Start and y as End, their reserved bits included, and blank ones
abbrev pub zeroed_pib : ℕ → ℕ → Rec
zeroed_pib x y = put2 partition_start_at x (put2 partition_end_at y blank)

unfoldable pub zeroed : Partition → ℕ → ℕ → View
zeroed π x y b = pick (eqb b π.s) (zeroed_pib x y) blank

-- a view that has them in s..e
abbrev pub Zeroed : Partition → ℕ → ℕ → View → Type 0
Zeroed π x y v = (b : ℕ) → π.s ≤ b → b ≤ π.e → v b ≡ zeroed π x y b

-- s+1, s+2, .. e
abbrev pub ascending : Partition → List ℕ
ascending π = tab_from (suc π.s) (π.e - π.s) (λ b. b)

pub record Fresh (π : Partition) (x y : ℕ) (v : View) : Type 0 where
  pub ok : sound π v ≡ true
  pub no_files : files π v ≡ []
  pub chain : free π v ≡ ascending π
  pub checks : check_in π v ≡ Ok (Some (0, 0, π.e - π.s))
  pub head : pair v π.s free_head_at ≡ lda π.drive (suc π.s)
  pub tail : pair v π.s free_tail_at ≡ lda π.drive π.e
  pub number : pair v π.s number_free_at ≡ π.e - π.s
  pub pib : v π.s ≡ put2 free_head_at (lda π.drive (suc π.s)) (put2 free_tail_at (lda π.drive π.e) (put2 number_free_at (π.e - π.s) (zeroed_pib x y)))
  pub serials : (b : ℕ) → π.s < b → b ≤ π.e → pair v b serial_at ≡ 0
  pub relatives : (b : ℕ) → π.s < b → b ≤ π.e → v b relative_at ≡ 0
  pub fillers : (b : ℕ) → π.s < b → b ≤ π.e → v b filler_at ≡ as_filler (suc π.s)
  pub zeros : (b : ℕ) → π.s < b → b ≤ π.e → (w : ℕ) → 8 ≤ w → v b w ≡ 0
