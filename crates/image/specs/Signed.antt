-- Header words as signed numbers: a word of sixteen bits is a number from -32768 to 32767, and each of these is one word.
use Rattle.std.specs.Prelude.{◌≡◌, refl, Bool, true, false, ℕ, ◌-◌, ◌≤◌, ◌<◌, ltb, ℤ, pos, negsuc}
use Rattle.std.proofs.Common.{sym, ap, ◌∙◌, arith, SFits, lt-ltb, le-ltb, ltb-true, ltb-false}
use Rattle.std.specs.Int.{w16}

-- the number that a word is: -1 is 65535, -(4 + i) is 65532 - i
unfoldable pub signed : ℕ → ℤ
signed w = elim (ltb w 32768) [ true ↦ pos w | false ↦ negsuc (65535 - w) ]

-- the word that a number is
abbrev pub word_of : ℤ → ℕ
word_of (pos n) = n
word_of (negsuc n) = 65535 - n

pub signed_low : {w : ℕ} → w < 32768 → pos w ≡ signed w
unfolding signed
signed_low {w} l = rw (lt-ltb w 32768 l, signed)

pub signed_high : {w : ℕ} → 32768 ≤ w → negsuc (65535 - w) ≡ signed w
unfolding signed
signed_high {w} l = rw (le-ltb w 32768 l, signed)

-- exactly: word to number to word, and number to word to number
pub word_signed : (w : ℕ) → w < 65536 → word_of (signed w) ≡ w
word_signed w h = go (ltb w 32768) refl
  where
    go : (t : Bool) → ltb w 32768 ≡ t → word_of (signed w) ≡ w
    go true q = ap word_of (sym (signed_low (ltb-true w 32768 q)))
    go false q = ap word_of (sym (signed_high (ltb-false w 32768 q))) ∙ (let z : 65535 - (65535 - w) ≡ w = omega arith in z)

pub signed_word : (z : ℤ) → SFits w16 z → signed (word_of z) ≡ z
signed_word (pos n) h = sym (signed_low h.sfits)
signed_word (negsuc n) h =
    let l : n < 32768 = h.sfits in
    sym (signed_high (let m : 32768 ≤ 65535 - n = omega arith in m)) ∙ ap negsuc (let q : 65535 - (65535 - n) ≡ n = omega arith in q)

-- so different words are different numbers
pub signed_injective : (a b : ℕ) → a < 65536 → b < 65536 → signed a ≡ signed b → a ≡ b
signed_injective a b h k q = sym (word_signed a h) ∙ ap word_of q ∙ word_signed b k
