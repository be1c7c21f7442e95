-- Lists of keys: what holds of each, membership, each once; and runs of stores by key.
use Rattle.std.specs.Prelude.{◌≡◌, ◌≢◌, Bool, ◌||◌, ℕ, ◌+◌, ◌≤◌}
use Rattle.std.proofs.Math.Path.{refl, ap}
use Rattle.std.proofs.Common.{sym, ap₂, ◌∙◌, true≢false, arith, eqb-true, eq-eqb, ne_eqb}
use mathlib.Core.List.{List, [], ◌∷◌, ◌++◌, map}
use Rattle.std.proofs.Math.Bool.{true, false}
use Rattle.std.proofs.Math.Dec.{eqb}
use Rattle.std.proofs.lemmas.Bool.{eqb-false}
use Rattle.base.specs.Tests.{pick, occ}
use Rattle.image.specs.View.{View, Rec, after, upd}
use Rattle.volume.specs.Plans.{st}

-- P holds of each number of a list; k stands in it
abbrev pub All : (ℕ → Type 0) → List ℕ → Type 0
All P [] = Unit {0}
All P (x ∷ xs) = P x × All P xs

unfoldable pub mem : ℕ → List ℕ → Bool
mem k [] = false
mem k (x ∷ xs) = eqb k x || mem k xs

module _ (P : ℕ → Type 0) where
  pub all_append : (xs ys : List ℕ) → All P xs → All P ys → All P (xs ++ ys)
  all_append [] ys h k = k
  all_append (x ∷ xs) ys h k = (h.0, all_append xs ys h.1 k)

  pub all_pick : (t : Bool) (xs ys : List ℕ) → (t ≡ true → All P xs) → (t ≡ false → All P ys) → All P (pick t xs ys)
  all_pick true xs ys h k = h refl
  all_pick false xs ys h k = k refl

pub all_map : (P Q : ℕ → Type 0) → ((k : ℕ) → P k → Q k) → (xs : List ℕ) → All P xs → All Q xs
all_map P Q m [] h = tt
all_map P Q m (x ∷ xs) h = (m x h.0, all_map P Q m xs h.1)

pub mem_left : (k : ℕ) (xs ys : List ℕ) → mem k xs ≡ true → mem k (xs ++ ys) ≡ true
unfolding mem
mem_left k [] ys h = absurd (true≢false (sym h))
mem_left k (x ∷ xs) ys h = go (eqb k x) h (mem_left k xs ys)
  where
    go : (t : Bool) → (t || mem k xs) ≡ true → (mem k xs ≡ true → mem k (xs ++ ys) ≡ true) → (t || mem k (xs ++ ys)) ≡ true
    go true h ih = refl
    go false h ih = ih h

pub mem_right : (k : ℕ) (xs ys : List ℕ) → mem k ys ≡ true → mem k (xs ++ ys) ≡ true
unfolding mem
mem_right k [] ys h = h
mem_right k (x ∷ xs) ys h = go (eqb k x) (mem_right k xs ys h)
  where
    go : (t : Bool) → mem k (xs ++ ys) ≡ true → (t || mem k (xs ++ ys)) ≡ true
    go true q = refl
    go false q = q

pub mem_here : (k : ℕ) (xs : List ℕ) → mem k (k ∷ xs) ≡ true
unfolding mem
mem_here k xs = ap (λ (t : Bool). t || mem k xs) (eq-eqb k k refl)

pub mem_later : (k x : ℕ) (xs : List ℕ) → mem k xs ≡ true → mem k (x ∷ xs) ≡ true
mem_later k x xs h = mem_right k (x ∷ []) xs h

pub mem_pick : (k : ℕ) (t : Bool) (xs ys : List ℕ) → t ≡ true → mem k xs ≡ true → mem k (pick t xs ys) ≡ true
mem_pick k t xs ys q h = ap (λ (u : Bool). mem k (pick u xs ys)) q ∙ h

-- each number of the list once
abbrev pub Distinct : List ℕ → Type 0
Distinct [] = Unit {0}
Distinct (x ∷ xs) = All (λ y. x ≢ y) xs × Distinct xs

pub distinct_append : (xs ys : List ℕ) → Distinct xs → Distinct ys → All (λ x. All (λ y. x ≢ y) ys) xs → Distinct (xs ++ ys)
distinct_append [] ys h k m = k
distinct_append (x ∷ xs) ys h k m = (all_append (λ y. x ≢ y) xs ys h.0 m.0, distinct_append xs ys h.1 k m.1)

-- a number stands in such a list once at most
none_occ : (b : ℕ) (xs : List ℕ) → All (λ y. b ≢ y) xs → occ b xs ≡ 0
unfolding occ
none_occ b [] h = refl
none_occ b (x ∷ xs) h = ap₂ (λ (t : Bool) (n : ℕ). pick t 1 0 + n) (ne_eqb b x h.0) (none_occ b xs h.1)

pub distinct_occ : (b : ℕ) (xs : List ℕ) → Distinct xs → occ b xs ≤ 1
unfolding occ
distinct_occ b [] d = omega arith
distinct_occ b (x ∷ xs) d = go (eqb b x) refl (distinct_occ b xs d.1)
  where
    go : (t : Bool) → eqb b x ≡ t → occ b xs ≤ 1 → pick t 1 0 + occ b xs ≤ 1
    go true q h = omega (arith, ap (λ (y : ℕ). occ y xs) (eqb-true b x q), none_occ x xs d.0)
    go false q h = omega arith

-- by a function that keeps numbers of P apart
module _ (P : ℕ → Type 0) (S : ℕ → ℕ) (one : (j k : ℕ) → P j → P k → S j ≡ S k → j ≡ k) where
  apart_map : (x : ℕ) (xs : List ℕ) → P x → All P xs → All (λ y. x ≢ y) xs → All (λ y. S x ≢ y) (map S xs)
  apart_map x [] p h n = tt
  apart_map x (y ∷ ys) p h n = ((λ z. n.0 (one x y p h.0 z)), apart_map x ys p h.1 n.1)

  pub distinct_map : (xs : List ℕ) → All P xs → Distinct xs → Distinct (map S xs)
  distinct_map [] h d = tt
  distinct_map (x ∷ xs) h d = (apart_map x xs h.0 h.1 d.0, distinct_map xs h.1 d.1)

pub all_of_map : (Q : ℕ → Type 0) (S : ℕ → ℕ) (xs : List ℕ) → All (λ k. Q (S k)) xs → All Q (map S xs)
all_of_map Q S [] h = tt
all_of_map Q S (x ∷ xs) h = (h.0, all_of_map Q S xs h.1)

-- ---- stores by key: S gives the block and G the record

module _ (S : ℕ → ℕ) (G : ℕ → Rec) where
  pub keyed : (ks : List ℕ) (u : View) (k : ℕ) → All (λ j. S j ≡ S k → j ≡ k) ks → after (map (λ j. st (S j) (G j)) ks) u (S k) ≡ pick (mem k ks) (G k) (u (S k))
  unfolding after mem
  keyed [] u k h = refl
  keyed (x ∷ xs) u k h = keyed xs (upd u (S x) (G x)) k h.1 ∙ go (eqb k x) refl (eqb (S k) (S x)) refl (mem k xs)
    where
      go : (t : Bool) → eqb k x ≡ t → (s : Bool) → eqb (S k) (S x) ≡ s → (m : Bool) → pick m (G k) (pick s (G x) (u (S k))) ≡ pick (t || m) (G k) (u (S k))
      go t q s p true = pick_true t
        where
          pick_true : (t : Bool) → G k ≡ pick (t || true) (G k) (u (S k))
          pick_true true = refl
          pick_true false = refl
      go true q true p false = ap G (sym (eqb-true k x q))
      go true q false p false = absurd (eqb-false (S k) (S x) p (ap S (eqb-true k x q)))
      go false q true p false = absurd (eqb-false k x q (sym (h.0 (sym (eqb-true (S k) (S x) p)))))
      go false q false p false = refl
