-- Relative numbers as the signed numbers that they are, from -291 to 32,766, beside the header words that the definitions speak of.
use Rattle.std.specs.Prelude.{◌≡◌, refl, Bool, true, false, ℕ, suc, ◌+◌, ◌-◌, ◌%◌, ◌<◌, leb, ltb, eqb, ℤ, pos, negsuc}
use Rattle.std.proofs.Common.{sym, ap, ◌∙◌, true≢false, arith}
use borrow.Author.Tests.{le-leb, lt-leb, leb-true, ltb-true, ltb-false, eq-eqb, eqb-true}
use Rattle.image.specs.Signed.{signed, signed_low, signed_high}

-- L is from -1 to 32,766
abbrev pub last_good : ℤ → Bool
last_good (pos n) = leb n 32766
last_good (negsuc n) = eqb n 0

-- L + 1, for an L from -1 up
abbrev pub blocks_to : ℤ → ℕ
blocks_to (pos n) = suc n
blocks_to (negsuc n) = 0

-- the same of the word w that L is, where L + 1 is (w + 1) % 65536
pub last_good_is : (w : ℕ) → w < 65536 → last_good (signed w) ≡ leb ((w + 1) % 65536) 32767
last_good_is w h = go (ltb w 32768) refl (eqb (65535 - w) 0) refl
  where
    go : (t : Bool) → ltb w 32768 ≡ t → (u : Bool) → eqb (65535 - w) 0 ≡ u → last_good (signed w) ≡ leb ((w + 1) % 65536) 32767
    go true q u r = rw (← signed_low (ltb-true w 32768 q)) (low (leb w 32766) refl)
      where
        low : (t : Bool) → leb w 32766 ≡ t → leb w 32766 ≡ leb ((w + 1) % 65536) 32767
        low true z = z ∙ sym (le-leb ((w + 1) % 65536) 32767 (let a = leb-true w 32766 z in omega arith))
        low false z = z ∙ sym (lt-leb ((w + 1) % 65536) 32767 (let a = ltb-true w 32768 q in let b = borrow.Author.Tests.leb-false w 32766 z in omega arith))
    go false q true r = rw (← signed_high (ltb-false w 32768 q)) (r ∙ sym (le-leb ((w + 1) % 65536) 32767 (let a : 65535 - w ≡ 0 = eqb-true _ _ r in omega arith)))
    go false q false r = rw (← signed_high (ltb-false w 32768 q)) (r ∙ sym (lt-leb ((w + 1) % 65536) 32767 (let a = ltb-false w 32768 q in omega (arith, more))))
      where
        more : (w + 1) % 65536 ≡ w + 1
        more = rest (ltb w 65535) refl
          where
            rest : (t : Bool) → ltb w 65535 ≡ t → (w + 1) % 65536 ≡ w + 1
            rest true z = let a = ltb-true w 65535 z in omega arith
            rest false z = absurd (true≢false (sym (eq-eqb (65535 - w) 0 (let a = ltb-false w 65535 z in omega arith)) ∙ r))

pub blocks_to_is : (w : ℕ) → w < 65536 → last_good (signed w) ≡ true → blocks_to (signed w) ≡ (w + 1) % 65536
blocks_to_is w h g = go (ltb w 32768) refl
  where
    go : (t : Bool) → ltb w 32768 ≡ t → blocks_to (signed w) ≡ (w + 1) % 65536
    go true q = rw (← signed_low (ltb-true w 32768 q)) (let a = ltb-true w 32768 q in omega arith)
    go false q =
        let s = signed_high (ltb-false w 32768 q) in
        let a : 65535 - w ≡ 0 = eqb-true (65535 - w) 0 (ap last_good s ∙ g) in
        rw (← s) (omega arith)
