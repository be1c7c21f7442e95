-- Records of words: what is put into one keeps it a record of 264 words below 65,536.
use Rattle.std.specs.Prelude.{◌≡◌, refl, List, Bool, true, false, ℕ, ◌+◌, ◌-◌, ◌*◌, ◌/◌, ◌%◌, ◌≤◌, ◌<◌, leb, ltb, eqb, length, get_or}
use Rattle.std.proofs.Common.{ap₂, ◌∙◌, arith, ltb-true, eqb-true, le-ltb, le-leb}
use Rattle.std.proofs.Math.ListN.{get_or-eq_default}
use Rattle.base.specs.Tests.{pick, both}
use Rattle.image.specs.View.{Rec, put, put2, blank}
use Rattle.image.specs.Saves.{with_data, with_text, words}
use Rattle.image.specs.Image.{view, Bytes}
use Rattle.image.specs.Stores.{Fits}
use Rattle.volume.specs.Keys.{child, first}
use Rattle.volume.specs.Plans.{trimmed}

pub put_fits : (i x : ℕ) {r : Rec} → i < 264 → x < 65536 → Fits r → Fits (put i x r)
unfolding put
put_fits i x {r} hi hx h = record { small = λ w. low w (eqb w i); ends = λ w k. high w (eqb w i) refl k }
  where
    low : (w : ℕ) (t : Bool) → pick t x (r w) < 65536
    low w true = hx
    low w false = h.small w

    high : (w : ℕ) (t : Bool) → eqb w i ≡ t → 264 ≤ w → pick t x (r w) ≡ 0
    high w true q k = absurd (let m : w ≡ i = eqb-true w i q in omega arith)
    high w false q k = h.ends w k

pub put2_fits : (i x : ℕ) {r : Rec} → i < 263 → x < 4294967296 → Fits r → Fits (put2 i x r)
unfolding put2
put2_fits i x hi hx h = put_fits i (x % 65536) (omega arith) (omega arith) (put_fits (i + 1) (x / 65536) (omega arith) (omega arith) h)

pub blank_fits : Fits blank
unfolding blank
blank_fits = record { small = λ w. omega arith; ends = λ w k. refl }

-- n words of a buffer
pub record Words (n : ℕ) (dat : Rec) : Type 0 where
  pub small : (k : ℕ) → dat k < 65536
  pub ends : (k : ℕ) → n ≤ k → dat k ≡ 0

pub words_of : (n : ℕ) (t : List ℕ) → Bytes t → length t ≡ 2 * n → Words n (words t)
unfolding words
words_of n t b h = record { small = λ k. omega (arith, b (2 * k), b (2 * k + 1)); ends = nil }
  where
    nil : (k : ℕ) → n ≤ k → get_or t (2 * k) 0 + 256 * get_or t (2 * k + 1) 0 ≡ 0
    nil k l =
        let x : length t ≤ 2 * k = omega arith in
        let z : length t ≤ 2 * k + 1 = omega arith in
        rw (get_or-eq_default t 0 x, get_or-eq_default t 0 z)

pub data_fits : {dat r : Rec} → Words 256 dat → Fits r → Fits (with_data dat r)
unfolding with_data
data_fits {dat} {r} d h = record { small = λ w. low w (ltb w 8); ends = λ w k. high w (ltb w 8) refl k }
  where
    low : (w : ℕ) (t : Bool) → pick t (r w) (dat (w - 8)) < 65536
    low w true = h.small w
    low w false = d.small (w - 8)

    high : (w : ℕ) (t : Bool) → ltb w 8 ≡ t → 264 ≤ w → pick t (r w) (dat (w - 8)) ≡ 0
    high w true q k = h.ends w k
    high w false q k = d.ends (w - 8) (omega arith)

pub text_fits : {n : ℕ} {dat r : Rec} → Words n dat → Fits r → Fits (with_text dat r)
unfolding with_text both
text_fits {n} {dat} {r} d h = record { small = λ w. low w (both (leb 8 w) (ltb w 60)); ends = λ w k. high w k }
  where
    low : (w : ℕ) (t : Bool) → pick t (dat (w - 8)) (r w) < 65536
    low w true = d.small (w - 8)
    low w false = h.small w

    high : (w : ℕ) → 264 ≤ w → pick (both (leb 8 w) (ltb w 60)) (dat (w - 8)) (r w) ≡ 0
    high w k = ap₂ (λ (t u : Bool). pick (both t u) (dat (w - 8)) (r w)) (le-leb 8 w (omega arith)) (le-ltb w 60 (omega arith)) ∙ h.ends w k

pub trimmed_fits : (n k : ℕ) {r : Rec} → Fits r → Fits (trimmed n k r)
unfolding trimmed
trimmed_fits n k {r} h = record { small = λ w. low w (both (leb 8 w) (leb n (first (child k w)))); ends = λ w l. high w (both (leb 8 w) (leb n (first (child k w)))) l }
  where
    low : (w : ℕ) (t : Bool) → pick t 0 (r w) < 65536
    low w true = omega arith
    low w false = h.small w

    high : (w : ℕ) (t : Bool) → 264 ≤ w → pick t 0 (r w) ≡ 0
    high w true l = refl
    high w false l = h.ends w l

-- the records of an image of bytes
pub view_fits : (l : List ℕ) (b : ℕ) → Bytes l → Fits (view l b)
unfolding view
view_fits l b h = record { small = λ w. low w (ltb w 264); ends = λ w k. high w (ltb w 264) refl k }
  where
    low : (w : ℕ) (t : Bool) → pick t (get_or l (528 * b + 2 * w) 0 + 256 * get_or l (528 * b + 2 * w + 1) 0) 0 < 65536
    low w true = omega (arith, h (528 * b + 2 * w), h (528 * b + 2 * w + 1))
    low w false = omega arith

    high : (w : ℕ) (t : Bool) → ltb w 264 ≡ t → 264 ≤ w → pick t (get_or l (528 * b + 2 * w) 0 + 256 * get_or l (528 * b + 2 * w + 1) 0) 0 ≡ 0
    high w true q k = absurd (let m : w < 264 = ltb-true w 264 q in omega arith)
    high w false q k = refl
