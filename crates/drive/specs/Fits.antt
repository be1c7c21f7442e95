-- Every number that a conversion answers fits 32 bits.
use Rattle.std.specs.Prelude.{◌≡◌, refl, Bool, true, false, ℕ, ◌<◌, ◌≤◌, ltb, eqb, Result, Ok, Err}
use Rattle.std.proofs.Common.{arith, ltb-true}
use Rattle.base.specs.Tests.{pick, both}
use Rattle.base.specs.Laws.{both_left}
use Rattle.base.specs.Refusals.{culprit}
use Rattle.base.specs.declared.Refusal.{Refusal}
use Rattle.base.specs.declared.Refusal.TheVariants.{BadImage, NoAddress}
use Rattle.drive.specs.Code.{place_number, encode}
use Rattle.drive.specs.Rows.{pda_code, lda_code, id_code}
use Rattle.drive.specs.Address.{blocks, pda, pda_block, lda, lda_block, is_lda, file_id, file_id_block, file_ids}
use Rattle.drive.specs.Answers.{converted, lbn_to_pda, pda_to_lbn, lbn_to_lda, lda_to_lbn, lbn_to_file_id, file_id_to_lbn}
use Rattle.drive.specs.Laws.{each_row, on_row, blocks_few}

-- the number of an answer fits, and so does a block that a refusal names
abbrev pub Fits : Result ℕ Refusal → Type 0
Fits (Ok x) = x < 4294967296
Fits (Err y) = culprit y < 4294967296

module _ (d b : ℕ) (h : b < 69552) where
  pub pda_small : pda d b < 4294967296
  unfolding pda place_number
  pda_small =
      rw (on_row (λ g. encode (pda_code g) b) d)
      (each_row (λ g. encode (pda_code g) b < 4294967296) d (omega arith) (omega arith) (omega arith) (omega arith))

  pub lda_small : lda d b < 4294967296
  unfolding lda place_number
  lda_small =
      rw (on_row (λ g. encode (lda_code g) b) d)
      (each_row (λ g. encode (lda_code g) b < 4294967296) d (omega arith) (omega arith) (omega arith) (omega arith))

  pub file_id_small : file_id d b < 4294967296
  unfolding file_id place_number
  file_id_small =
      rw (on_row (λ g. encode (id_code g) b) d)
      (each_row (λ g. encode (id_code g) b < 4294967296) d (omega arith) (omega arith) (omega arith) (omega arith))

pub ids_few : (d : ℕ) → file_ids d ≤ 69552
unfolding file_ids
ids_few d = rw (on_row (λ g. g.ids) d) (each_row (λ g. g.ids ≤ 69552) d (omega arith) (omega arith) (omega arith) (omega arith))

converted_fits : (d : ℕ) (good : Bool) (x : ℕ) → (good ≡ true → x < 4294967296) → Fits (converted d good x)
converted_fits d good x h = go (ltb 3 d) good refl
  where
    go : (t u : Bool) → good ≡ u → Fits (pick t (Err BadImage) (pick u (Ok x) (Err NoAddress)))
    go true u q = omega arith
    go false true q = h q
    go false false q = omega arith

encoded_fits : (d b n y : ℕ) → n ≤ 69552 → (b < 69552 → y < 4294967296) → Fits (converted d (ltb b n) y)
encoded_fits d b n y l h = converted_fits d (ltb b n) y (λ q. h (omega (arith, ltb-true b n q)))

decoded_fits : (d b n : ℕ) (t : Bool) → n ≤ 69552 → Fits (converted d (both (ltb b n) t) b)
decoded_fits d b n t l = converted_fits d (both (ltb b n) t) b (λ q. omega (arith, ltb-true b n (both_left (ltb b n) t q)))

module _ (d x : ℕ) where
  pub lbn_to_pda_fits : Fits (lbn_to_pda d x)
  unfolding lbn_to_pda
  lbn_to_pda_fits = encoded_fits d x (blocks d) (pda d x) (blocks_few d) (pda_small d x)

  pub pda_to_lbn_fits : Fits (pda_to_lbn d x)
  unfolding pda_to_lbn
  pda_to_lbn_fits = decoded_fits d (pda_block d x) (blocks d) (eqb (pda d (pda_block d x)) x) (blocks_few d)

  pub lbn_to_lda_fits : Fits (lbn_to_lda d x)
  unfolding lbn_to_lda
  lbn_to_lda_fits = encoded_fits d x (blocks d) (lda d x) (blocks_few d) (lda_small d x)

  pub lda_to_lbn_fits : Fits (lda_to_lbn d x)
  unfolding lda_to_lbn
  lda_to_lbn_fits = decoded_fits d (lda_block d x) (blocks d) (is_lda d x (lda_block d x)) (blocks_few d)

  pub lbn_to_file_id_fits : Fits (lbn_to_file_id d x)
  unfolding lbn_to_file_id
  lbn_to_file_id_fits = encoded_fits d x (file_ids d) (file_id d x) (ids_few d) (file_id_small d x)

  pub file_id_to_lbn_fits : Fits (file_id_to_lbn d x)
  unfolding file_id_to_lbn
  file_id_to_lbn_fits = decoded_fits d (file_id_block d x) (file_ids d) (eqb (file_id d (file_id_block d x)) x) (ids_few d)
