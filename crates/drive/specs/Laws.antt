-- The laws of addresses, once over the numbers of a code, then on every drive.
use Rattle.std.specs.Prelude.{◌≡◌, refl, Bool, true, false, ℕ, zero, suc, ◌+◌, ◌-◌, ◌*◌, ◌/◌, ◌%◌, ◌<◌, ◌≤◌, ◌≢◌, eqb}
use Rattle.std.proofs.Common.{sym, ap, ◌∙◌, mod-lt, lt_of_lt_of_le, add-zero, add-sub_cancel, ne_eqb}
use Rattle.std.proofs.Math.Nat.{div-add-mod', zero-div, zero-mod, zero-mul}
use native.Mathlib.Omega.{arith}
use Rattle.std.proofs.Math.Arith.{digits_lt, digits_div, digits_mod}
use Rattle.base.specs.Tests.{pick}
use Rattle.drive.specs.Code.{Code, Good, place_number, guess, encode, decode}
use Rattle.drive.specs.Rows.{Row, on_drive, shugart12, shugart24, micropolis, floppy, pda_code, lda_code, id_code}
use Rattle.drive.specs.Address.{blocks, pda, pda_block, lda, lda_block, file_id, file_id_block}

module _ (k : Code) (g : Good k) where
  -- the number of a sector lies below a track's unit, that of a track below a cylinder's
  pub in_track : (x : ℕ) → x % k.sectors * k.step + k.first < k.track
  in_track x = lt_of_lt_of_le (digits_lt (mod-lt x g.some_sector) g.first_below) g.sectors_fit

  pub in_cylinder : (x : ℕ) → x / k.sectors % k.tracks * k.track + (x % k.sectors * k.step + k.first) < k.cylinder
  in_cylinder x = lt_of_lt_of_le (digits_lt (mod-lt (x / k.sectors) g.some_track) (in_track x)) g.tracks_fit

  -- the place guessed from a place's number is that place
  pub guess_place : (x : ℕ) → guess k (place_number k x) ≡ x
  unfolding guess place_number
  guess_place x =
      rw (
        digits_div (x / k.sectors / k.tracks) (in_cylinder x),
        digits_mod (x / k.sectors / k.tracks) (in_cylinder x),
        digits_div (x / k.sectors % k.tracks) (in_track x),
        digits_mod (x / k.sectors % k.tracks) (in_track x),
        digits_div (x % k.sectors) g.first_below,
        div-add-mod' (x / k.sectors) k.tracks,
        div-add-mod' x k.sectors,
      )

  -- block to address and back
  pub decode_encode : (b : ℕ) → decode k (encode k b) ≡ b
  decode_encode b = rw (guess_place (b + k.offset), add-sub_cancel b k.offset)

  guess_nil : guess k 0 ≡ 0
  unfolding guess
  guess_nil = simp (zero-div, zero-mod, zero-mul, add-zero)

  -- no block's address is nil where the first block is not the first place
  pub never_nil : (b : ℕ) → 0 < k.offset → 0 < encode k b
  never_nil b o = go (encode k b) refl
    where
      go : (x : ℕ) → encode k b ≡ x → 0 < x
      go zero e = absurd (omega (arith, sym (guess_place (b + k.offset)) ∙ ap (guess k) e ∙ guess_nil))
      go (suc x) e = omega arith

-- ---- on every drive

either : {A : Type 0} (P : A → Type 0) (t : Bool) (a b : A) → P a → P b → P (pick t a b)
either P true a b p q = p
either P false a b p q = q

-- the row of a drive
unfoldable pub row_of : ℕ → Row
row_of = on_drive (λ g. g)

-- what holds of each row holds of a drive's
pub each_row : (P : Row → Type 0) (d : ℕ) → P shugart12 → P shugart24 → P micropolis → P floppy → P (row_of d)
unfolding on_drive row_of
each_row P d a b c e = either P (eqb d 0) _ _ a (either P (eqb d 1) _ _ b (either P (eqb d 2) _ _ c e))

pub on_row : {A : Type 0} (F : Row → A) (d : ℕ) → on_drive F d ≡ F (row_of d)
unfolding on_drive row_of
on_row F d = go (eqb d 0) (eqb d 1) (eqb d 2)
  where
    go : (x y z : Bool) → pick x (F shugart12) (pick y (F shugart24) (pick z (F micropolis) (F floppy)))
        ≡ F (pick x shugart12 (pick y shugart24 (pick z micropolis floppy)))
    go true y z = refl
    go false true z = refl
    go false false true = refl
    go false false false = refl

-- the rows' numbers are good ones, and the first block of each is not the first place
pub record Fine (g : Row) : Type 0 where
  pub pda_good : Good (pda_code g)
  pub lda_good : Good (lda_code g)
  pub id_good : Good (id_code g)
  pub pda_off : 0 < g.boot
  pub lda_off : 0 < g.lda
  pub few : g.blocks ≤ 69552

pub fine : (d : ℕ) → Fine (row_of d)
fine d = each_row Fine d (omega arith) (omega arith) (omega arith) (omega arith)

-- the address leads back to the block
pub pda_back : (d b : ℕ) → pda_block d (pda d b) ≡ b
unfolding pda pda_block
pda_back d b = on_row _ d ∙ ap (decode (pda_code (row_of d))) (on_row _ d) ∙ decode_encode _ (fine d).pda_good b

pub lda_back : (d b : ℕ) → lda_block d (lda d b) ≡ b
unfolding lda lda_block
lda_back d b = on_row _ d ∙ ap (decode (lda_code (row_of d))) (on_row _ d) ∙ decode_encode _ (fine d).lda_good b

pub file_id_back : (d b : ℕ) → file_id_block d (file_id d b) ≡ b
unfolding file_id file_id_block
file_id_back d b = on_row _ d ∙ ap (decode (id_code (row_of d))) (on_row _ d) ∙ decode_encode _ (fine d).id_good b

-- no PDA and no LDA is nil
pub pda_pos : (d b : ℕ) → 0 < pda d b
unfolding pda
pda_pos d b = rw (on_row (λ g. encode (pda_code g) b) d) (never_nil _ (fine d).pda_good b (fine d).pda_off)

pub lda_pos : (d b : ℕ) → 0 < lda d b
unfolding lda
lda_pos d b = rw (on_row (λ g. encode (lda_code g) b) d) (never_nil _ (fine d).lda_good b (fine d).lda_off)

-- different blocks have different addresses
pub pda_injective : (d a b : ℕ) → pda d a ≡ pda d b → a ≡ b
pda_injective d a b e = sym (pda_back d a) ∙ ap (pda_block d) e ∙ pda_back d b

pub lda_injective : (d a b : ℕ) → lda d a ≡ lda d b → a ≡ b
lda_injective d a b e = sym (lda_back d a) ∙ ap (lda_block d) e ∙ lda_back d b

pub file_id_injective : (d a b : ℕ) → file_id d a ≡ file_id d b → a ≡ b
file_id_injective d a b e = sym (file_id_back d a) ∙ ap (file_id_block d) e ∙ file_id_back d b

pub blocks_few : (d : ℕ) → blocks d ≤ 69552
unfolding blocks
blocks_few d = rw (on_row (λ g. g.blocks) d) (fine d).few

-- the drives below 3 have the same logical addresses, and any other is taken for the floppy
pub hard : {A : Type 0} (F : Row → A) (x : A) (d : ℕ) → d < 3 → F shugart12 ≡ x → F shugart24 ≡ x → F micropolis ≡ x → on_drive F d ≡ x
unfolding on_drive
hard F x zero h a b c = a
hard F x (suc zero) h a b c = b
hard F x (suc (suc zero)) h a b c = c
hard F x (suc (suc (suc d))) h a b c = absurd (omega arith)

pub soft : {A : Type 0} (F : Row → A) (d : ℕ) → d ≢ 0 → d ≢ 1 → d ≢ 2 → on_drive F d ≡ F floppy
unfolding on_drive
soft F d a b c = simp (ne_eqb d 0 a, ne_eqb d 1 b, ne_eqb d 2 c)

pub soft_row : (d : ℕ) → 2 < d → row_of d ≡ floppy
unfolding row_of
soft_row d h = soft (λ g. g) d (λ q. omega arith) (λ q. omega arith) (λ q. omega arith)

module _ (d b : ℕ) where
  pub hard_lda : d < 3 → lda d b ≡ (b + 12582912) * 256
  unfolding lda place_number
  hard_lda h = hard (λ g. encode (lda_code g) b) ((b + 12582912) * 256) d h (omega arith) (omega arith) (omega arith)

  pub soft_lda : 3 ≤ d → lda d b ≡ (b + 14680064) * 256
  unfolding lda place_number
  soft_lda h = soft (λ g. encode (lda_code g) b) d (λ q. omega arith) (λ q. omega arith) (λ q. omega arith) ∙ omega arith

  pub hard_block : d < 3 → lda_block d b ≡ b / 256 - 12582912
  unfolding lda_block guess
  hard_block h = hard (λ g. decode (lda_code g) b) (b / 256 - 12582912) d h (omega arith) (omega arith) (omega arith)

  pub soft_block : 3 ≤ d → lda_block d b ≡ b / 256 - 14680064
  unfolding lda_block guess
  soft_block h = soft (λ g. decode (lda_code g) b) d (λ q. omega arith) (λ q. omega arith) (λ q. omega arith) ∙ omega arith

  pub hard_id : d < 3 → file_id d b ≡ b
  unfolding file_id place_number
  hard_id h = hard (λ g. encode (id_code g) b) b d h (omega arith) (omega arith) (omega arith)

  pub soft_id : 3 ≤ d → file_id d b ≡ b + 57344
  unfolding file_id place_number
  soft_id h = soft (λ g. encode (id_code g) b) d (λ q. omega arith) (λ q. omega arith) (λ q. omega arith) ∙ omega arith

  pub hard_id_block : d < 3 → file_id_block d b ≡ b
  unfolding file_id_block guess
  hard_id_block h = hard (λ g. decode (id_code g) b) b d h (omega arith) (omega arith) (omega arith)

  pub soft_id_block : 3 ≤ d → file_id_block d b ≡ b - 57344
  unfolding file_id_block guess
  soft_id_block h = soft (λ g. decode (id_code g) b) d (λ q. omega arith) (λ q. omega arith) (λ q. omega arith) ∙ omega arith
