-- What the six conversions answer, on any numbers: 1 for a drive above 3, then 10 for a number that does not convert.
use Rattle.std.specs.Prelude.{Bool, ℕ, ltb, eqb, Result, Ok, Err}
use Rattle.base.specs.Tests.{pick, both}
use Rattle.base.specs.declared.Refusal.{Refusal}
use Rattle.base.specs.declared.Refusal.TheVariants.{BadImage, NoAddress}
use Rattle.drive.specs.Address.{blocks, pda, pda_block, lda, lda_block, is_lda, file_id, file_id_block, file_ids}

-- x where the drive is known and the number converts
abbrev pub converted : ℕ → Bool → ℕ → Result ℕ Refusal
converted d good x = pick (ltb 3 d) (Err BadImage) (pick good (Ok x) (Err NoAddress))

-- a block converts if the drive has it; an address if it is that of such a block, an LDA whatever its reserved bits
unfoldable pub lbn_to_pda : ℕ → ℕ → Result ℕ Refusal
lbn_to_pda d b = converted d (ltb b (blocks d)) (pda d b)

unfoldable pub pda_to_lbn : ℕ → ℕ → Result ℕ Refusal
pda_to_lbn d x = converted d (both (ltb (pda_block d x) (blocks d)) (eqb (pda d (pda_block d x)) x)) (pda_block d x)

unfoldable pub lbn_to_lda : ℕ → ℕ → Result ℕ Refusal
lbn_to_lda d b = converted d (ltb b (blocks d)) (lda d b)

unfoldable pub lda_to_lbn : ℕ → ℕ → Result ℕ Refusal
lda_to_lbn d x = converted d (both (ltb (lda_block d x) (blocks d)) (is_lda d x (lda_block d x))) (lda_block d x)

unfoldable pub lbn_to_file_id : ℕ → ℕ → Result ℕ Refusal
lbn_to_file_id d b = converted d (ltb b (file_ids d)) (file_id d b)

unfoldable pub file_id_to_lbn : ℕ → ℕ → Result ℕ Refusal
file_id_to_lbn d x = converted d (both (ltb (file_id_block d x) (file_ids d)) (eqb (file_id d (file_id_block d x)) x)) (file_id_block d x)
