-- Stores on the image's bytes: a whole record each. What they do to the view.
use Rattle.std.specs.Prelude.{◌≡◌, List, [], ◌∷◌, ◌++◌, Bool, ◌≢◌, ℕ, zero, suc, ◌+◌, ◌-◌, ◌*◌, ◌/◌, ◌%◌, ◌≤◌, ◌<◌, take}
use Rattle.std.proofs.Math.Path.{refl, sym, ap, ap₂, fun_ext}
use Rattle.std.proofs.Common.{◌∙◌, subst, length-append, ext_get_or, length-take-le, get_or-take}
use Rattle.std.proofs.Math.Bool.{true, false}
use native.Mathlib.Omega.{arith}
use Rattle.std.proofs.Math.Decide.{dec_lt}
use Rattle.std.proofs.Math.Dec.{ltb, eqb}
use Rattle.std.proofs.Math.ListN.{get_or, length, drop, length-drop, get_or-append}
use Rattle.std.proofs.Math.Seq.{get_or-drop, get_or-append-add}
use borrow.Author.Tests.{ltb-true, ltb-false, eqb-true, eqb-false}
use Rattle.base.specs.Tests.{pick}
use Rattle.image.specs.View.{Rec, Store, upd, after}
use Rattle.image.specs.Image.{view, view_at, rec_of, rec_at, Bytes}

-- the bytes of the k words of r from i on
unfoldable pub bytes_from : Rec → ℕ → ℕ → List ℕ
bytes_from r i zero = []
bytes_from r i (suc k) = r i % 256 ∷ (r i / 256 ∷ bytes_from r (suc i) k)

-- a record's 528 bytes
unfoldable pub bytes_of : Rec → List ℕ
bytes_of r = bytes_from r 0 264

-- x over the bytes of b from `at` on
unfoldable pub lay : List ℕ → ℕ → List ℕ → List ℕ
lay b at x = take at b ++ (x ++ drop (at + length x) b)

-- the image with the bytes x as its record b
unfoldable pub over : List ℕ → ℕ → List ℕ → List ℕ
over l b x = take (528 * b) l ++ (x ++ drop (528 * b + 528) l)

-- the image after the stores of a list, in order
unfoldable pub stored : List Store → List ℕ → List ℕ
stored [] l = l
stored (x ∷ xs) l = stored xs (over l x.at (bytes_of x.rec))

-- block b lies in the image
abbrev pub In : List ℕ → ℕ → Type 0
In l b = 528 * b + 528 ≤ length l

-- the words of a record are words, and it has 264
pub record Fits (r : Rec) : Type 0 where
  pub small : (w : ℕ) → r w < 65536
  pub ends : (w : ℕ) → 264 ≤ w → r w ≡ 0

-- each store of a list lies in an image of n bytes and has a record's words
abbrev pub Whole : ℕ → List Store → Type 0
Whole n [] = Unit
Whole n (x ∷ xs) = ((528 * x.at + 528 ≤ n) × Fits x.rec) × Whole n xs

-- ---- bytes of a record

from_length : (r : Rec) (i k : ℕ) → length (bytes_from r i k) ≡ 2 * k
unfolding bytes_from
from_length r i zero = refl
from_length r i (suc k) = omega (arith, from_length r (suc i) k)

from_low : (r : Rec) (i k j : ℕ) → j < k → get_or (bytes_from r i k) (2 * j) 0 ≡ r (i + j) % 256
unfolding bytes_from
from_low r i zero j h = absurd (omega arith)
from_low r i (suc k) zero h = ap (λ (n : ℕ). r n % 256) (let z : i ≡ i + 0 = omega arith in z)
from_low r i (suc k) (suc j) h =
    ap (λ (n : ℕ). get_or (bytes_from r i (suc k)) n 0) (let z : 2 * suc j ≡ suc (suc (2 * j)) = omega arith in z)
    ∙ from_low r (suc i) k j (omega arith) ∙ ap (λ (n : ℕ). r n % 256) (let z : suc i + j ≡ i + suc j = omega arith in z)

from_high : (r : Rec) (i k j : ℕ) → j < k → get_or (bytes_from r i k) (2 * j + 1) 0 ≡ r (i + j) / 256
unfolding bytes_from
from_high r i zero j h = absurd (omega arith)
from_high r i (suc k) zero h = ap (λ (n : ℕ). r n / 256) (let z : i ≡ i + 0 = omega arith in z)
from_high r i (suc k) (suc j) h =
    ap (λ (n : ℕ). get_or (bytes_from r i (suc k)) n 0) (let z : 2 * suc j + 1 ≡ suc (suc (2 * j + 1)) = omega arith in z)
    ∙ from_high r (suc i) k j (omega arith) ∙ ap (λ (n : ℕ). r n / 256) (let z : suc i + j ≡ i + suc j = omega arith in z)

pub bytes_length : (r : Rec) → length (bytes_of r) ≡ 528
unfolding bytes_of
bytes_length r = from_length r 0 264

bytes_low : (r : Rec) (w : ℕ) → w < 264 → get_or (bytes_of r) (2 * w) 0 ≡ r w % 256
unfolding bytes_of
bytes_low r w h = from_low r 0 264 w h ∙ ap (λ (n : ℕ). r n % 256) (let z : 0 + w ≡ w = omega arith in z)

bytes_high : (r : Rec) (w : ℕ) → w < 264 → get_or (bytes_of r) (2 * w + 1) 0 ≡ r w / 256
unfolding bytes_of
bytes_high r w h = from_high r 0 264 w h ∙ ap (λ (n : ℕ). r n / 256) (let z : 0 + w ≡ w = omega arith in z)

-- the words of a record's bytes are its words
pub rec_bytes : (r : Rec) → Fits r → rec_of (bytes_of r) ≡ r
unfolding rec_of
rec_bytes r h = fun_ext (λ w. go w (ltb w 264) refl)
  where
    go : (w : ℕ) (t : Bool) → ltb w 264 ≡ t → pick t (get_or (bytes_of r) (2 * w) 0 + 256 * get_or (bytes_of r) (2 * w + 1) 0) 0 ≡ r w
    go w true q = let m = ltb-true w 264 q in rw (bytes_low r w m, bytes_high r w m) (omega arith)
    go w false q = sym (h.ends w (ltb-false w 264 q))

low_of : (a b : ℕ) → a < 256 → (a + 256 * b) % 256 ≡ a
low_of a b h = omega arith

high_of : (a b : ℕ) → a < 256 → (a + 256 * b) / 256 ≡ b
high_of a b h = omega arith

-- the bytes of a record's words are its bytes
pub bytes_rec : (x : List ℕ) → length x ≡ 528 → Bytes x → bytes_of (rec_of x) ≡ x
bytes_rec x hx bx = ext_get_or 0 (bytes_of (rec_of x)) x (bytes_length (rec_of x) ∙ sym hx) (λ i k. go i (i % 2) refl (omega (arith, bytes_length (rec_of x))))
  where
    go : (i p : ℕ) → i % 2 ≡ p → i < 528 → get_or (bytes_of (rec_of x)) i 0 ≡ get_or x i 0
    go i zero q k =
        let z : i ≡ 2 * (i / 2) = omega arith in
        let m : i / 2 < 264 = omega arith in
        subst (λ (j : ℕ). get_or (bytes_of (rec_of x)) j 0 ≡ get_or x j 0) (sym z) (bytes_low (rec_of x) (i / 2) m ∙ ap (λ (y : ℕ). y % 256) (rec_at x (i / 2) m) ∙ low_of _ _ (bx _))
    go i (suc zero) q k =
        let z : i ≡ 2 * (i / 2) + 1 = omega arith in
        let m : i / 2 < 264 = omega arith in
        subst (λ (j : ℕ). get_or (bytes_of (rec_of x)) j 0 ≡ get_or x j 0) (sym z) (bytes_high (rec_of x) (i / 2) m ∙ ap (λ (y : ℕ). y / 256) (rec_at x (i / 2) m) ∙ high_of (get_or x (2 * (i / 2)) 0) _ (bx _))
    go i (suc (suc p)) q k = absurd (omega arith)

-- ---- one store, by bytes

module _ (l x : List ℕ) (b : ℕ) (hx : length x ≡ 528) (hl : In l b) where
  front : length (take (528 * b) l) ≡ 528 * b
  front = length-take-le (528 * b) l (omega arith)

  pub over_length : length (over l b x) ≡ length l
  unfolding over
  over_length = simp (length-append, length-drop, front, hx) (omega arith)

  over_before : (i : ℕ) → i < 528 * b → get_or (over l b x) i 0 ≡ get_or l i 0
  unfolding over
  over_before i h =
      let f : length (take (528 * b) l) ≡ 528 * b = front in
      let g : i < length (take (528 * b) l) = omega arith in
      rw (get_or-append (take (528 * b) l) _ 0 i g, get_or-take)

  over_within : (k : ℕ) → k < 528 → get_or (over l b x) (528 * b + k) 0 ≡ get_or x k 0
  unfolding over
  over_within k h =
      let g : k < length x = omega arith in
      let e : get_or (over l b x) (length (take (528 * b) l) + k) 0 ≡ get_or (x ++ drop (528 * b + 528) l) k 0 = get_or-append-add (take (528 * b) l) _ k 0 in
      (rw front at e) ∙ get_or-append x _ 0 k g

  over_after : (k : ℕ) → get_or (over l b x) (528 * b + (528 + k)) 0 ≡ get_or l (528 * b + (528 + k)) 0
  unfolding over
  over_after k =
      let e : get_or (over l b x) (length (take (528 * b) l) + (528 + k)) 0 ≡ get_or (x ++ drop (528 * b + 528) l) (528 + k) 0 = get_or-append-add (take (528 * b) l) _ (528 + k) 0 in
      let g : get_or (x ++ drop (528 * b + 528) l) (length x + k) 0 ≡ get_or (drop (528 * b + 528) l) k 0 = get_or-append-add x _ k 0 in
      (rw front at e) ∙ (rw hx at g) ∙ get_or-drop (528 * b + 528) l k 0 ∙ ap (λ (n : ℕ). get_or l n 0) (omega arith)

  over_else : (c i : ℕ) → c ≢ b → i < 528 → Dec (c < b) → get_or (over l b x) (528 * c + i) 0 ≡ get_or l (528 * c + i) 0
  over_else c i h k (yes p) = over_before (528 * c + i) (omega arith)
  over_else c i h k (no p) =
      let j : ℕ = 528 * c + i - (528 * b + 528) in
      let q : b < c = omega arith in
      let e : 528 * b + (528 + j) ≡ 528 * c + i = omega arith in
      rw e at (over_after j)

  -- the view after a store
  pub view_over : view (over l b x) ≡ upd (view l) b (rec_of x)
  unfolding view rec_of
  view_over = fun_ext (λ c. fun_ext (λ w. go c w (ltb w 264) refl (eqb c b) refl))
    where
      go : (c w : ℕ) (t : Bool) → ltb w 264 ≡ t → (u : Bool) → eqb c b ≡ u
          → pick t (get_or (over l b x) (528 * c + 2 * w) 0 + 256 * get_or (over l b x) (528 * c + 2 * w + 1) 0) 0 ≡ pick u (rec_of x) (view l c) w
      go c w true q true z =
          let m = ltb-true w 264 q in
          let e : c ≡ b = eqb-true c b z in
          let lo : 2 * w < 528 = omega arith in
          let hi : 2 * w + 1 < 528 = omega arith in
          let s : 528 * c + 2 * w ≡ 528 * b + 2 * w = omega arith in
          let t : 528 * c + 2 * w + 1 ≡ 528 * b + (2 * w + 1) = omega arith in
          ap₂ (λ (i j : ℕ). get_or (over l b x) i 0 + 256 * get_or (over l b x) j 0) s t
          ∙ ap₂ (λ (i j : ℕ). i + 256 * j) (over_within (2 * w) lo) (over_within (2 * w + 1) hi) ∙ sym (rec_at x w m)
      go c w true q false z =
          let m = ltb-true w 264 q in
          let n = eqb-false c b z in
          let t : 528 * c + 2 * w + 1 ≡ 528 * c + (2 * w + 1) = omega arith in
          ap₂ (λ (i j : ℕ). i + 256 * j) (over_else c (2 * w) n (omega arith) (dec_lt c b)) (ap (λ (i : ℕ). get_or (over l b x) i 0) t ∙ over_else c (2 * w + 1) n (omega arith) (dec_lt c b) ∙ ap (λ (i : ℕ). get_or l i 0) (sym t)) ∙ sym (view_at l c w m)
      go c w false q true z = sym (rw q)
      go c w false q false z = sym (rw q)

-- ---- several stores

-- the view after stores, and the length
pub view_stored : (ss : List Store) (l : List ℕ) → Whole (length l) ss → view (stored ss l) ≡ after ss (view l)
unfolding stored after
view_stored [] l h = refl
view_stored (s ∷ ss) l h =
    let x : List ℕ = bytes_of s.rec in
    let n : length x ≡ 528 = bytes_length s.rec in
    let e : length (over l s.at x) ≡ length l = over_length l x s.at n h.0.0 in
    let w : Whole (length (over l s.at x)) ss = rw e h.1 in
    view_stored ss (over l s.at x) w ∙ ap (after ss) (view_over l x s.at n h.0.0 ∙ ap (upd (view l) s.at) (rec_bytes s.rec h.0.1))

pub stored_length : (ss : List Store) (l : List ℕ) → Whole (length l) ss → length (stored ss l) ≡ length l
unfolding stored
stored_length [] l h = refl
stored_length (s ∷ ss) l h =
    let x : List ℕ = bytes_of s.rec in
    let e : length (over l s.at x) ≡ length l = over_length l x s.at (bytes_length s.rec) h.0.0 in
    let w : Whole (length (over l s.at x)) ss = rw e h.1 in
    stored_length ss (over l s.at x) w ∙ e

pub take_whole : (n k : ℕ) (ss : List Store) → Whole n ss → Whole n (take k ss)
take_whole n zero ss h = tt
take_whole n (suc k) [] h = tt
take_whole n (suc k) (s ∷ ss) h = (h.0, take_whole n k ss h.1)
