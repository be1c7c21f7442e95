-- Signed numbers of the code: what a conversion gives, and what a test of one says of the header word. Assumes nothing.
use mathlib.Core.Path.{◌≡◌, refl, sym, ap, ◌∙◌}
use mathlib.Core.Bool.{Bool, true, false, cond, true≢false}
use Prim.Native.Nat.{ℕ, suc, ◌+◌, ◌-◌, ◌%◌, ◌≤◌, ◌<◌}
use native.Mathlib.Omega.{arith}
use lib.Dec.{ltb, eqb}
use lib.IntN.{ℤ, pos, negsuc, ◌+ℤ◌, ◌-ℤ◌}
use lib.Signed.{lt_z, le_z}
use mir.Syntax.{w16, w32}
use mir.Val.{SFits, to_z, of_z}
use mir.ValLaws.{to_z_pos, to_z-of_z}
use mir.Facts.{sfits_widen}
use borrow.Author.Tests.{lt-ltb, le-ltb, ltb-true, ltb-false, leb-true, eq-eqb, ne_eqb, eqb-true}
use Rattle.image.specs.Signed.{signed, word_of, signed_low, signed_high, word_signed, signed_word}
use Rattle.volume.specs.Keys.{key_of, number}
use Rattle.inspect.specs.Numbers.{last_good, blocks_to}

-- a word's number fits sixteen bits
signed_fits : (w : ℕ) → SFits w16 (signed w)
signed_fits w = go (ltb w 32768) refl
  where
    go : (t : Bool) → ltb w 32768 ≡ t → SFits w16 (signed w)
    go true j = rw (← signed_low (ltb-true w 32768 j)) (record { sfits = ltb-true w 32768 j })
    go false j = rw (← signed_high (ltb-false w 32768 j)) (record { sfits = (let l : 65535 - w < 32768 = omega (arith, ltb-false w 32768 j) in l) })

-- a number that a call answered, passed on
module _ (x : ℤ) (w : ℕ) (h : SFits w32 x) (q : x ≡ signed w) where
  pub passed : to_z w32 (of_z w32 x) ≡ signed w
  passed = to_z-of_z w32 x h ∙ q

  pub passed_word : w < 65536 → word_of (to_z w32 (of_z w32 x)) ≡ w
  passed_word l = ap word_of passed ∙ word_signed w l

  pub passed_fits : SFits w16 (to_z w32 (of_z w32 x))
  passed_fits = rw passed (signed_fits w)

-- a test of a word's number with n
bits_same : (a b : ℤ) → SFits w32 a → SFits w32 b → of_z w32 a ≡ of_z w32 b → a ≡ b
bits_same a b s t e = sym (to_z-of_z w32 a s) ∙ ap (to_z w32) e ∙ to_z-of_z w32 b t

module _ (x n : ℤ) (w : ℕ) (q : x ≡ signed w) where
  pub number_is : w < 65536 → SFits w32 x → SFits w32 n → of_z w32 x ≡ of_z w32 n → true ≡ eqb w (word_of n)
  number_is l h k e = sym (eq-eqb w (word_of n) (sym (word_signed w l) ∙ ap word_of (sym q ∙ bits_same x n h k e)))

  pub number_not : SFits w16 n → (of_z w32 x ≡ of_z w32 n → ⊥) → false ≡ eqb w (word_of n)
  number_not k e = sym (ne_eqb w (word_of n) (λ z. e (ap (of_z w32) (q ∙ ap signed z ∙ signed_word n k))))

-- the relative number of a key
number_less : (k : ℕ) → k < 33060 → to_z w32 k -ℤ pos 292 ≡ signed (number k)
unfolding number
number_less k h = rw (to_z_pos w32 k (omega arith)) (go (ltb k 292) refl)
  where
    go : (t : Bool) → ltb k 292 ≡ t → cond t (negsuc (292 - suc k)) (pos (k - 292)) ≡ signed ((k + 65244) % 65536)
    go true q =
        let l = ltb-true k 292 q in
        ap negsuc (let z : 292 - suc k ≡ 65535 - (k + 65244) % 65536 = omega arith in z) ∙ signed_high (omega arith)
    go false q =
        let l = ltb-false k 292 q in
        ap pos (let z : k - 292 ≡ (k + 65244) % 65536 = omega arith in z) ∙ signed_low (omega arith)

pub number_fits : (k : ℕ) → k < 33060 → SFits w32 (to_z w32 k -ℤ pos 292)
number_fits k h = rw (number_less k h) (sfits_widen {w = w16} {w' = w32} tt (signed_fits (number k)))

pub number_of : (k : ℕ) → k < 33060 → to_z w32 (of_z w32 (to_z w32 k -ℤ pos 292)) ≡ signed (number k)
number_of k h = to_z-of_z w32 _ (number_fits k h) ∙ number_less k h

-- L from -1 to 32,766
pub last_below : (l : ℤ) → SFits w32 l → lt_z (to_z w32 (of_z w32 l)) (negsuc 0) ≡ true → false ≡ last_good l
last_below l f h = go l (rw (to_z-of_z w32 l f) at h)
  where
    go : (l : ℤ) → lt_z l (negsuc 0) ≡ true → false ≡ last_good l
    go (pos n) h = absurd (true≢false (sym h))
    go (negsuc n) h = sym (ne_eqb n 0 (λ j. let u = ltb-true 0 n h in omega arith))

pub last_from : (l : ℤ) → SFits w32 l → lt_z (to_z w32 (of_z w32 l)) (negsuc 0) ≡ false → le_z (to_z w32 (of_z w32 l)) (pos 32766) ≡ last_good l
last_from l f h = rw (to_z-of_z w32 l f) (go l (rw (to_z-of_z w32 l f) at h))
  where
    go : (l : ℤ) → lt_z l (negsuc 0) ≡ false → le_z l (pos 32766) ≡ last_good l
    go (pos n) h = refl
    go (negsuc n) h = sym (eq-eqb n 0 (let u = ltb-false 0 n h in omega arith))

-- L + 1
module _ (l : ℤ) (f : SFits w32 l) (g : last_good l ≡ true) where
  next : to_z w32 (of_z w32 l) +ℤ pos 1 ≡ pos (blocks_to l)
  next = rw (to_z-of_z w32 l f) (go l g)
    where
      go : (l : ℤ) → last_good l ≡ true → l +ℤ pos 1 ≡ pos (blocks_to l)
      go (pos n) h = ap pos (omega arith)
      go (negsuc n) h = let z : n ≡ 0 = eqb-true n 0 h in rw z

  pub next_few : blocks_to l ≤ 32767
  next_few = go l g
    where
      go : (l : ℤ) → last_good l ≡ true → blocks_to l ≤ 32767
      go (pos n) h = omega (arith, leb-true n 32766 h)
      go (negsuc n) h = omega arith

  pub next_fits : SFits w32 (to_z w32 (of_z w32 l) +ℤ pos 1)
  next_fits = rw next (record { sfits = omega (arith, next_few) })

  pub next_is : to_z w32 (of_z w32 (to_z w32 (of_z w32 l) +ℤ pos 1)) ≡ pos (blocks_to l)
  next_is = to_z-of_z w32 _ next_fits ∙ next

-- the key of a relative number
pub key_small : (w : ℕ) → key_of w < 65536
unfolding key_of
key_small w = omega arith

sum_fits : (n : ℤ) → SFits w16 n → SFits w32 (n +ℤ pos 292)
sum_fits (pos m) f = record { sfits = omega (arith, f.sfits) }
sum_fits (negsuc m) f = go (ltb 292 (suc m))
  where
    go : (t : Bool) → SFits w32 (cond t (negsuc (suc m - 293)) (pos (292 - suc m)))
    go true = record { sfits = omega (arith, f.sfits) }
    go false = record { sfits = omega arith }

sum_far : (n : ℤ) → SFits w16 n → lt_z n (negsuc 291) ≡ true → n +ℤ pos 292 +ℤ pos 65536 ≡ pos (key_of (word_of n))
unfolding key_of
sum_far (pos m) f h = absurd (true≢false (sym h))
sum_far (negsuc m) f h =
    let l = ltb-true 291 m h in
    let u : m < 32768 = f.sfits in
    rw (lt-ltb 292 (suc m) (omega arith), le-ltb 65536 (suc (suc m - 293)) (omega arith)) (ap pos (omega arith))

sum_near : (n : ℤ) → SFits w16 n → lt_z n (negsuc 291) ≡ false → n +ℤ pos 292 ≡ pos (key_of (word_of n))
unfolding key_of
sum_near (pos m) f h = let u : m < 32768 = f.sfits in ap pos (omega arith)
sum_near (negsuc m) f h = let l = ltb-false 291 m h in rw (le-ltb 292 (suc m) (omega arith)) (ap pos (omega arith))

module _ (n : ℤ) (f : SFits w16 n) where
  pub self : to_z w32 (of_z w32 n) ≡ n
  self = to_z-of_z w32 n (sfits_widen {w = w16} {w' = w32} tt f)

  pub key_fits : SFits w32 (to_z w32 (of_z w32 n) +ℤ pos 292)
  key_fits = rw self (sum_fits n f)

  sum_is : to_z w32 (of_z w32 (to_z w32 (of_z w32 n) +ℤ pos 292)) ≡ n +ℤ pos 292
  sum_is = to_z-of_z w32 _ key_fits ∙ ap (λ (z : ℤ). z +ℤ pos 292) self

  pub near_key : lt_z (to_z w32 (of_z w32 n)) (negsuc 291) ≡ false → to_z w32 (of_z w32 (to_z w32 (of_z w32 n) +ℤ pos 292)) ≡ pos (key_of (word_of n))
  near_key h = sum_is ∙ sum_near n f (rw self at h)

  module _ (h : lt_z (to_z w32 (of_z w32 n)) (negsuc 291) ≡ true) where
    far_sum : to_z w32 (of_z w32 (to_z w32 (of_z w32 n) +ℤ pos 292)) +ℤ pos 65536 ≡ pos (key_of (word_of n))
    far_sum = ap (λ (z : ℤ). z +ℤ pos 65536) sum_is ∙ sum_far n f (rw self at h)

    pub far_fits : SFits w32 (to_z w32 (of_z w32 (to_z w32 (of_z w32 n) +ℤ pos 292)) +ℤ pos 65536)
    far_fits = rw far_sum (record { sfits = omega (arith, key_small (word_of n)) })

    pub far_key : to_z w32 (of_z w32 (to_z w32 (of_z w32 (to_z w32 (of_z w32 n) +ℤ pos 292)) +ℤ pos 65536)) ≡ pos (key_of (word_of n))
    far_key = to_z-of_z w32 _ far_fits ∙ far_sum
