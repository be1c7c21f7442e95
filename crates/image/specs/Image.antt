-- The lent image, a list of bytes, as a view. A view settles the image.
use Rattle.std.specs.Prelude.{◌≡◌, refl, List, ℕ, zero, suc, ◌+◌, ◌*◌, ◌/◌, ◌%◌, ◌<◌, ltb, get_or, length}
use Rattle.std.proofs.Common.{sym, ◌∙◌, subst, arith, ext_get_or, lt-ltb}
use Rattle.base.specs.Tests.{pick}
use Rattle.image.specs.View.{View, Rec}

-- word w of block b: its low byte is byte 528 b + 2 w; a record has 264 words
unfoldable pub view : List ℕ → View
view l b w = pick (ltb w 264) (get_or l (528 * b + 2 * w) 0 + 256 * get_or l (528 * b + 2 * w + 1) 0) 0

-- word w of a record that is a list of bytes
unfoldable pub rec_of : List ℕ → Rec
rec_of r w = pick (ltb w 264) (get_or r (2 * w) 0 + 256 * get_or r (2 * w + 1) 0) 0

abbrev pub Bytes : List ℕ → Type 0
Bytes l = (i : ℕ) → get_or l i 0 < 256

pub view_at : (l : List ℕ) (b w : ℕ) → w < 264 → view l b w ≡ get_or l (528 * b + 2 * w) 0 + 256 * get_or l (528 * b + 2 * w + 1) 0
unfolding view
view_at l b w h = rw (lt-ltb w 264 h)

pub rec_at : (r : List ℕ) (w : ℕ) → w < 264 → rec_of r w ≡ get_or r (2 * w) 0 + 256 * get_or r (2 * w + 1) 0
unfolding rec_of
rec_at r w h = rw (lt-ltb w 264 h)

low_same : (a b c d : ℕ) → a < 256 → c < 256 → a + 256 * b ≡ c + 256 * d → a ≡ c
low_same a b c d h k q = omega arith

high_same : (a b c d : ℕ) → a < 256 → c < 256 → a + 256 * b ≡ c + 256 * d → b ≡ d
high_same a b c d h k q = omega arith

pub view_settles : (l m : List ℕ) (n : ℕ) → length l ≡ 528 * n → length m ≡ 528 * n → Bytes l → Bytes m
    → ((b w : ℕ) → b < n → w < 264 → view l b w ≡ view m b w) → l ≡ m
view_settles l m n hl hm bl bm h = ext_get_or 0 l m (hl ∙ sym hm) (λ i k. go i (i % 2) refl (omega arith))
  where
    at : (i : ℕ) → i < 528 * n → get_or l (528 * (i / 528) + 2 * (i % 528 / 2)) 0 + 256 * get_or l (528 * (i / 528) + 2 * (i % 528 / 2) + 1) 0 ≡ get_or m (528 * (i / 528) + 2 * (i % 528 / 2)) 0 + 256 * get_or m (528 * (i / 528) + 2 * (i % 528 / 2) + 1) 0
    at i k =
        let z : i % 528 / 2 < 264 = omega arith in
        sym (view_at l (i / 528) (i % 528 / 2) z) ∙ h (i / 528) (i % 528 / 2) (omega arith) z ∙ view_at m (i / 528) (i % 528 / 2) z

    go : (i p : ℕ) → i % 2 ≡ p → i < 528 * n → get_or l i 0 ≡ get_or m i 0
    go i zero q k =
        let z : i ≡ 528 * (i / 528) + 2 * (i % 528 / 2) = omega arith in
        subst (λ (j : ℕ). get_or l j 0 ≡ get_or m j 0) (sym z) (low_same _ _ _ _ (bl _) (bm _) (at i k))
    go i (suc zero) q k =
        let z : i ≡ 528 * (i / 528) + 2 * (i % 528 / 2) + 1 = omega arith in
        subst (λ (j : ℕ). get_or l j 0 ≡ get_or m j 0) (sym z) (high_same (get_or l (528 * (i / 528) + 2 * (i % 528 / 2)) 0) _ (get_or m (528 * (i / 528) + 2 * (i % 528 / 2)) 0) _ (bl _) (bm _) (at i k))
    go i (suc (suc p)) q k = absurd (omega arith)
