-- What names a block by its LDA, whatever the reserved bits: the address test, and the address that is written over another one.
use Rattle.std.specs.Prelude.{◌≡◌, refl, Bool, true, false, ℕ, ◌+◌, ◌-◌, ◌*◌, ◌/◌, ◌%◌, ◌<◌, ltb, Ok, Err}
use Rattle.std.proofs.Common.{sym, ap, ◌∙◌, subst}
use native.Mathlib.Omega.{arith}
use borrow.Author.Tests.{eqb-true, eq-eqb}
use Rattle.base.specs.Tests.{pick}
use Rattle.base.specs.Laws.{both_left, both_right, both_of}
use Rattle.base.specs.declared.Refusal.TheVariants.{BadImage, NoAddress}
use Rattle.drive.specs.Code.{place_number, guess, encode, decode}
use Rattle.drive.specs.Rows.{lda_code}
use Rattle.drive.specs.Address.{blocks, lda, lda_block, cleaned, is_lda, address}
use Rattle.drive.specs.Answers.{converted, lbn_to_lda, lda_to_lbn}
use Rattle.drive.specs.Fits.{lda_small}
use Rattle.drive.specs.Laws.{row_of, each_row, on_row, fine}

module _ (d : ℕ) where
  -- the LDAs of a drive are 256 apart, and their low eight bits are not looked at
  pub lda_is : (b : ℕ) → lda d b ≡ (b + (row_of d).lda) * 256
  unfolding lda place_number
  lda_is b = on_row (λ g. encode (lda_code g) b) d ∙ omega arith

  pub block_is : (x : ℕ) → lda_block d x ≡ x / 256 - (row_of d).lda
  unfolding lda_block guess
  block_is x = on_row (λ g. decode (lda_code g) x) d ∙ omega arith

  -- what decodes to b is b's LDA when cleaned, is decoded as b, and is not nil
  pub lda_cleaned : (x b : ℕ) → is_lda d x b ≡ true → cleaned x ≡ lda d b
  unfolding is_lda
  lda_cleaned x b h = eqb-true (cleaned x) (lda d b) h

  pub lda_block_is : (x b : ℕ) → is_lda d x b ≡ true → lda_block d x ≡ b
  lda_block_is x b h = omega (arith, lda_cleaned x b h, lda_is b, block_is x)

  -- and what is decoded as a block above another is that block's: its address need not be worked out
  pub lda_here : (x : ℕ) {s : ℕ} → s < lda_block d x → is_lda d x (lda_block d x) ≡ true
  unfolding is_lda
  lda_here x h = eq-eqb (cleaned x) (lda d (lda_block d x)) (omega (arith, h, lda_is (lda_block d x), block_is x))

  -- which its bits 8 to 28 are on every drive
  lda_tag : (row_of d).lda % 2097152 ≡ 0
  lda_tag = each_row (λ g. g.lda % 2097152 ≡ 0) d (omega arith) (omega arith) (omega arith) (omega arith)

  pub lda_bits : (x : ℕ) {s : ℕ} → s < lda_block d x → lda_block d x < 2097152 → x / 256 % 2097152 ≡ lda_block d x
  lda_bits x h l = omega (arith, h, l, lda_tag, block_is x)

  pub lda_some : (x b : ℕ) → is_lda d x b ≡ true → 0 < x
  lda_some x b h = omega (arith, lda_cleaned x b h, lda_is b, (fine d).lda_off)

  -- a block's own LDA does, and any with other reserved bits
  pub lda_any : (x b : ℕ) → cleaned x ≡ lda d b → is_lda d x b ≡ true
  unfolding is_lda
  lda_any x b h = eq-eqb (cleaned x) (lda d b) h

  pub lda_clean : (b : ℕ) → cleaned (lda d b) ≡ lda d b
  lda_clean b = omega (arith, lda_is b)

  pub lda_self : (b : ℕ) → is_lda d (lda d b) b ≡ true
  lda_self b = lda_any (lda d b) b (lda_clean b)

  -- ---- the address that is written over `old`

  module _ (old b : ℕ) where
    pub address_kept : is_lda d old b ≡ true → address d old b ≡ old
    unfolding address
    address_kept h = rw (h)

    pub address_new : is_lda d old b ≡ false → address d old b ≡ lda d b
    unfolding address
    address_new h = rw (h)

    -- what holds of the old address where it names b, and of b's own, holds of it
    either : (P : ℕ → Type 0) → (is_lda d old b ≡ true → P old) → P (lda d b) → P (address d old b)
    either P k n = go (is_lda d old b) refl
      where
        go : (t : Bool) → is_lda d old b ≡ t → P (address d old b)
        go true q = subst P (sym (address_kept q)) (k q)
        go false q = subst P (sym (address_new q)) n

    -- it decodes to b, and fits a pair of words
    pub address_names : is_lda d (address d old b) b ≡ true
    address_names = either (λ (x : ℕ). is_lda d x b ≡ true) (λ q. q) (lda_self b)

    pub address_small : old < 4294967296 → b < 69552 → address d old b < 4294967296
    address_small l m = either (λ (x : ℕ). x < 4294967296) (λ _. l) (lda_small d b m)

  -- and stays when it is written again
  pub address_twice : (old b : ℕ) → address d (address d old b) b ≡ address d old b
  address_twice old b = address_kept (address d old b) b (address_names old b)

  -- nil names no block, nor does a number of reserved bits alone: over it the clean address is written
  pub nil_new : (x b : ℕ) → x < 256 → address d x b ≡ lda d b
  nil_new x b l = address_new x b (go (is_lda d x b) refl)
    where
      go : (t : Bool) → is_lda d x b ≡ t → t ≡ false
      go true q = absurd (omega (arith, lda_cleaned x b q, lda_is b, (fine d).lda_off))
      go false q = refl

-- ---- the conversions

-- a conversion that answers a number is of a known drive and a number that converts
pub record Numbered (d : ℕ) (good : Bool) (x y : ℕ) : Type 0 where
  pub known : ltb 3 d ≡ false
  pub good_one : good ≡ true
  pub is : x ≡ y

pub numbered : (d : ℕ) (good : Bool) (x y : ℕ) → converted d good x ≡ Ok y → Numbered d good x y
numbered d good x y = go (ltb 3 d) good refl refl
  where
    go : (t u : Bool) → ltb 3 d ≡ t → good ≡ u → pick t (Err BadImage) (pick u (Ok x) (Err NoAddress)) ≡ Ok y → Numbered d good x y
    go true u p q e = let z : ◌≡◌ {A = ℕ} 0 1 = cc in absurd (omega arith)
    go false false p q e = let z : ◌≡◌ {A = ℕ} 0 1 = cc in absurd (omega arith)
    go false true p q e = record { known = p; good_one = q; is = cc }

-- x converts to b exactly if the drive is known and has b, and x decodes to b
pub record Converts (d x b : ℕ) : Type 0 where
  pub known : ltb 3 d ≡ false
  pub there : ltb b (blocks d) ≡ true
  pub names : is_lda d x b ≡ true

pub converts : (d x b : ℕ) → lda_to_lbn d x ≡ Ok b → Converts d x b
unfolding lda_to_lbn
converts d x b h =
    let a = numbered d _ (lda_block d x) b h in
    record { known = a.known; there = rw a.is at (both_left _ _ a.good_one); names = rw a.is at (both_right _ _ a.good_one) }

pub converts_of : (d x b : ℕ) → Converts d x b → lda_to_lbn d x ≡ Ok b
unfolding lda_to_lbn
converts_of d x b c = rw (lda_block_is d x b c.names, c.known, both_of c.there c.names)

-- LBN to LDA to LBN is exact; LDA to LBN to LDA gives the cleaned address
pub lbn_lda_lbn : (d b x : ℕ) → lbn_to_lda d b ≡ Ok x → lda_to_lbn d x ≡ Ok b
unfolding lbn_to_lda
lbn_lda_lbn d b x h =
    let a = numbered d _ (lda d b) x h in
    converts_of d x b
    (record { known = a.known; there = a.good_one; names = ap (λ (y : ℕ). is_lda d y b) (sym a.is) ∙ lda_self d b })

pub lda_lbn_lda : (d x b : ℕ) → lda_to_lbn d x ≡ Ok b → lbn_to_lda d b ≡ Ok (cleaned x)
unfolding lbn_to_lda
lda_lbn_lda d x b h = let c = converts d x b h in rw (c.known, c.there, lda_cleaned d x b c.names)
