-- Where repair stands among the unowned blocks as it goes from s+1 up to e: P holds of the unowned ones.
use Rattle.std.specs.Prelude.{◌≡◌, ◌⊎◌, Bool, length}
use Rattle.std.proofs.Math.Path.{refl, sym, ap}
use Rattle.std.proofs.Common.{ap₂, ◌∙◌, inl, inr, length-append}
use mathlib.Core.List.{List, [], ◌∷◌, ◌++◌, append-nil}
use Rattle.std.proofs.Math.Bool.{true, false}
use Prim.Native.Nat.{ℕ, zero, suc, ◌+◌, ◌-◌, ◌≤◌, ◌<◌}
use native.Mathlib.Omega.{arith}
use Rattle.base.specs.Tests.{pick, those, last_of, head_of, above, below}
use Rattle.frame.specs.Chain.{above_those, below_those, head_least, length_most}
use Rattle.frame.specs.Joined.{last_both}

-- at block b: the last one below b, or 0; the first from b on, or 0; and how many are below b
pub record Standing (P : ℕ → Bool) (s e b last next count : ℕ) : Type 0 where
  pub behind : last ≡ last_of 0 (those (suc s) (b - suc s) P)
  pub ahead : next ≡ head_of 0 (those b (suc e - b) P)
  pub many : count ≡ length (those (suc s) (b - suc s) P)

module _ (P : ℕ → Bool) where
  those_on : (i k : ℕ) → P i ≡ true → those i (suc k) P ≡ i ∷ those (suc i) k P
  unfolding those
  those_on i k q = ap (λ (t : Bool). pick t (i ∷ those (suc i) k P) (those (suc i) k P)) q

  those_off : (i k : ℕ) → P i ≡ false → those i (suc k) P ≡ those (suc i) k P
  unfolding those
  those_off i k q = ap (λ (t : Bool). pick t (i ∷ those (suc i) k P) (those (suc i) k P)) q

  -- one more at the end
  those_snoc : (i k : ℕ) → those i (suc k) P ≡ those i k P ++ pick (P (i + k)) ((i + k) ∷ []) []
  unfolding those
  those_snoc i zero = ap (λ (n : ℕ). pick (P n) (n ∷ []) []) (let z : i ≡ i + 0 = omega arith in z)
  those_snoc i (suc k) =
      go (P i) (those_snoc (suc i) k ∙ ap (λ (n : ℕ). those (suc i) k P ++ pick (P n) (n ∷ []) []) (let z : suc i + k ≡ i + suc k = omega arith in z))
    where
      go : (t : Bool) → those (suc i) (suc k) P ≡ those (suc i) k P ++ pick (P (i + suc k)) ((i + suc k) ∷ []) []
          → pick t (i ∷ those (suc i) (suc k) P) (those (suc i) (suc k) P) ≡ pick t (i ∷ those (suc i) k P) (those (suc i) k P) ++ pick (P (i + suc k)) ((i + suc k) ∷ []) []
      go true ih = ap (λ (xs : List ℕ). i ∷ xs) ih
      go false ih = ih

  -- where the last and the first of those lie
  pub last_under : (i k x : ℕ) → x < i → last_of x (those i k P) < i + k
  unfolding last_of those
  last_under i zero x h = omega arith
  last_under i (suc k) x h = go (P i) (last_under (suc i) k i (omega arith)) (last_under (suc i) k x (omega arith))
    where
      go : (t : Bool) → last_of i (those (suc i) k P) < suc i + k → last_of x (those (suc i) k P) < suc i + k
          → last_of x (pick t (i ∷ those (suc i) k P) (those (suc i) k P)) < i + suc k
      go true a b = omega arith
      go false a b = omega arith

  pub head_under : (i k : ℕ) → 0 < i → head_of 0 (those i k P) < i + k
  unfolding head_of those
  head_under i zero h = omega arith
  head_under i (suc k) h = go (P i) (head_under (suc i) k (omega arith))
    where
      go : (t : Bool) → head_of 0 (those (suc i) k P) < suc i + k → head_of 0 (pick t (i ∷ those (suc i) k P) (those (suc i) k P)) < i + suc k
      go true a = omega arith
      go false a = omega arith

last_snoc : (d y : ℕ) (xs : List ℕ) → last_of d (xs ++ (y ∷ [])) ≡ y
unfolding last_of
last_snoc d y xs = last_both d xs (y ∷ [])

pub stand_starts : (P : ℕ → Bool) (s e first : ℕ) → s < e → first ≡ head_of 0 (those (suc s) (e - s) P) → Standing P s e (suc s) 0 first 0
unfolding those last_of
stand_starts P s e first h q =
    let z : suc s - suc s ≡ 0 = omega arith in
    let w : suc e - suc s ≡ e - s = omega arith in
    record { behind = rw z; ahead = q ∙ ap (λ (n : ℕ). head_of 0 (those (suc s) n P)) (sym w); many = rw z }

module _ {P : ℕ → Bool} {s e b last next count : ℕ} (g : Standing P s e b last next count) (lo : s < b) (hi : b ≤ e) where
  abbrev below_b : List ℕ
  below_b = those (suc s) (b - suc s) P

  more : suc e - b ≡ suc (e - b)
  more = omega arith

  here : suc s + (b - suc s) ≡ b
  here = omega arith

  step : b + 1 - suc s ≡ suc (b - suc s)
  step = omega arith

  after : e - b ≡ suc e - (b + 1)
  after = omega arith

  -- b is unowned exactly if it is the first from b on
  pub stand_hit : b ≡ next → P b ≡ true
  stand_hit q = go (P b) refl
    where
      go : (t : Bool) → P b ≡ t → P b ≡ true
      go true j = j
      go false j =
          let z : b ≡ head_of 0 (those (suc b) (e - b) P) = q ∙ g.ahead ∙ ap (λ (n : ℕ). head_of 0 (those b n P)) more ∙ ap (head_of 0) (those_off P b (e - b) j) in
          absurd (no z (head_least P (suc b) (e - b)))
        where
          no : b ≡ head_of 0 (those (suc b) (e - b) P) → (head_of 0 (those (suc b) (e - b) P) ≡ 0) ⊎ (suc b ≤ head_of 0 (those (suc b) (e - b) P)) → ⊥
          no z (inl w) = omega arith
          no z (inr w) = omega arith

  pub stand_miss : (b ≡ next → ⊥) → P b ≡ false
  unfolding head_of
  stand_miss n = go (P b) refl
    where
      go : (t : Bool) → P b ≡ t → P b ≡ false
      go true j = absurd (n (sym (g.ahead ∙ ap (λ (m : ℕ). head_of 0 (those b m P)) more ∙ ap (head_of 0) (those_on P b (e - b) j))))
      go false j = j

  -- the neighbours of b in the whole list
  pub stand_below : below b (those (suc s) (e - s) P) ≡ last
  stand_below = below_those P b (suc s) (e - s) (omega arith) (omega arith) (omega arith) ∙ sym g.behind

  pub stand_above : above b (those (suc s) (e - s) P) ≡ head_of 0 (those (b + 1) (suc e - (b + 1)) P)
  stand_above =
      above_those P b (suc s) (e - s) (omega arith) (omega arith)
      ∙ ap₂ (λ (i k : ℕ). head_of 0 (those i k P)) (let z : suc b ≡ b + 1 = omega arith in z) (let z : suc s + (e - s) - suc b ≡ suc e - (b + 1) = omega arith in z)

  -- past b, which is unowned; past b, which is owned
  pub stand_on : {x : ℕ} → P b ≡ true → x ≡ head_of 0 (those (b + 1) (suc e - (b + 1)) P) → Standing P s e (b + 1) b x (count + 1)
  stand_on q j =
      let l : those (suc s) (b + 1 - suc s) P ≡ below_b ++ (b ∷ []) =
      ap (λ (n : ℕ). those (suc s) n P) step ∙ those_snoc P (suc s) (b - suc s) ∙ ap (λ (n : ℕ). below_b ++ pick (P n) (n ∷ []) []) here ∙ ap (λ (t : Bool). below_b ++ pick t (b ∷ []) []) q in
      record {
        behind = sym (ap (last_of 0) l ∙ last_snoc 0 b below_b);
        ahead = j;
        many = ap (λ (n : ℕ). n + 1) g.many ∙ sym (ap length l ∙ length-append below_b (b ∷ []));
      }

  pub stand_past : P b ≡ false → Standing P s e (b + 1) last next count
  stand_past q =
      let l : those (suc s) (b + 1 - suc s) P ≡ below_b =
      ap (λ (n : ℕ). those (suc s) n P) step ∙ those_snoc P (suc s) (b - suc s) ∙ ap (λ (n : ℕ). below_b ++ pick (P n) (n ∷ []) []) here ∙ ap (λ (t : Bool). below_b ++ pick t (b ∷ []) []) q ∙ append-nil below_b in
      record {
        behind = g.behind ∙ ap (last_of 0) (sym l);
        ahead =
            g.ahead ∙ ap (λ (n : ℕ). head_of 0 (those b n P)) more ∙ ap (head_of 0) (those_off P b (e - b) q)
            ∙ ap₂ (λ (i k : ℕ). head_of 0 (those i k P)) (let z : suc b ≡ b + 1 = omega arith in z) after;
        many = g.many ∙ ap length (sym l);
      }

  pub last_few : last ≤ e
  last_few = omega (arith, g.behind, last_under P (suc s) (b - suc s) 0 (omega arith))

  pub many_few : count ≤ e
  many_few = omega (arith, g.many, length_most P (suc s) (b - suc s))

-- past the last block
module _ {P : ℕ → Bool} {s e last next count : ℕ} (g : Standing P s e (suc e) last next count) where
  pub stand_last : last ≡ last_of 0 (those (suc s) (e - s) P)
  stand_last = g.behind ∙ ap (λ (n : ℕ). last_of 0 (those (suc s) n P)) (let z : suc e - suc s ≡ e - s = omega arith in z)

  pub stand_many : count ≡ length (those (suc s) (e - s) P)
  stand_many = g.many ∙ ap (λ (n : ℕ). length (those (suc s) n P)) (let z : suc e - suc s ≡ e - s = omega arith in z)

  pub last_end : s < e → last ≤ e
  last_end h = omega (arith, g.behind, last_under P (suc s) (suc e - suc s) 0 (omega arith))

  pub many_end : count ≤ e
  many_end = omega (arith, g.many, length_most P (suc s) (suc e - suc s))

-- a search for the first of the numbers up to e that has P, or 0: what is left to search has the whole's answer
pub record Seeking (P : ℕ → Bool) (e b w : ℕ) : Type 0 where
  pub left : head_of 0 (those b (e - b) P) ≡ w

pub seek_starts : {P : ℕ → Bool} {e b : ℕ} → Seeking P e b (head_of 0 (those b (e - b) P))
seek_starts = record { left = refl }

module _ {P : ℕ → Bool} {e b w : ℕ} (s : Seeking P e b w) where
  pub seek_hit : b < e → P b ≡ true → b ≡ w
  unfolding head_of
  seek_hit l q = sym (ap (λ (n : ℕ). head_of 0 (those b n P)) (let z : e - b ≡ suc (e - suc b) = omega arith in z) ∙ ap (head_of 0) (those_on P b (e - suc b) q)) ∙ s.left

  pub seek_next : b < e → P b ≡ false → Seeking P e (b + 1) w
  seek_next l q = record {
    left =
        ap₂ (λ (i k : ℕ). head_of 0 (those i k P)) (let z : b + 1 ≡ suc b = omega arith in z) (let z : e - (b + 1) ≡ e - suc b = omega arith in z)
        ∙ sym (ap (λ (n : ℕ). head_of 0 (those b n P)) (let z : e - b ≡ suc (e - suc b) = omega arith in z) ∙ ap (head_of 0) (those_off P b (e - suc b) q)) ∙ s.left;
  }

  pub seek_end : e ≤ b → 0 ≡ w
  unfolding head_of those
  seek_end l = sym (ap (λ (n : ℕ). head_of 0 (those b n P)) (let z : e - b ≡ 0 = omega arith in z)) ∙ s.left
