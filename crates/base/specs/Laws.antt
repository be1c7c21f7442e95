-- Laws of the tests: a conjunction and a bounded quantifier, taken apart, made, and rewritten; a test that cannot hold.
use Rattle.std.specs.Prelude.{◌≡◌, refl, ◌⊎◌, List, [], ◌∷◌, get_or, ℕ, zero, suc, ◌<◌, eqb}
use Rattle.std.proofs.Common.{sym, ap₂, subst, inl, inr, le_refl, le_trans, not-suc-le-zero, eq-or-lt_of_le, le_of_suc-le-suc, eqb-true, eq-eqb, ne_eqb}
use mathlib.Core.Bool.{Bool, true, false, ◌&&◌}
use Rattle.std.proofs.Math.Nat.{le-suc}
use Rattle.std.proofs.lemmas.Bool.{eqb-false}
use Rattle.base.specs.Tests.{pick, both, every, all, same_row, same_table}

pub and_left : (a b : Bool) → (a && b) ≡ true → a ≡ true
and_left true b h = refl
and_left false b h = h

pub and_right : (a b : Bool) → (a && b) ≡ true → b ≡ true
and_right true b h = h
and_right false b h = absurd (mathlib.Core.Bool.false≢true h)

pub and_both : {a b : Bool} → a ≡ true → b ≡ true → (a && b) ≡ true
and_both {a} {b} p q = ap₂ ◌&&◌ p q

-- all k P: at each number below k, and back; equal tests give equal answers
pub all_at : (k : ℕ) (P : ℕ → Bool) → all k P ≡ true → (i : ℕ) → i < k → P i ≡ true
unfolding all
all_at zero P h i l = absurd (not-suc-le-zero l)
all_at (suc k) P h i l = go (eq-or-lt_of_le (le_of_suc-le-suc l)) (all_at k P (and_right (P k) (all k P) h) i)
  where
    go : (i ≡ k) ⊎ (i < k) → (i < k → P i ≡ true) → P i ≡ true
    go (inl e) ih = subst (λ (x : ℕ). P x ≡ true) (sym e) (and_left (P k) (all k P) h)
    go (inr m) ih = ih m

pub all_of : (k : ℕ) (P : ℕ → Bool) → ((i : ℕ) → i < k → P i ≡ true) → all k P ≡ true
unfolding all
all_of zero P h = refl
all_of (suc k) P h = and_both (h k (le_refl (suc k))) (all_of k P (λ i l. h i (le_trans l (le-suc k))))

pub all_same : (k : ℕ) (P Q : ℕ → Bool) → ((i : ℕ) → i < k → P i ≡ Q i) → all k P ≡ all k Q
unfolding all
all_same zero P Q h = refl
all_same (suc k) P Q h = ap₂ ◌&&◌ (h k (le_refl (suc k))) (all_same k P Q (λ i l. h i (le_trans l (le-suc k))))

-- two numbers compared either way
pub eqb_swap : (a b : ℕ) → eqb a b ≡ eqb b a
eqb_swap a b = go (eqb a b) refl
  where
    go : (t : Bool) → eqb a b ≡ t → t ≡ eqb b a
    go true q = sym (eq-eqb b a (sym (eqb-true a b q)))
    go false q = sym (ne_eqb b a (λ e. eqb-false a b q (sym e)))

-- a choice, branch by branch
pub pick_same : {A : Type 0} (t : Bool) {a a' b b' : A} → (t ≡ true → a ≡ a') → (t ≡ false → b ≡ b') → pick t a b ≡ pick t a' b'
pick_same true p q = p refl
pick_same false p q = q refl

pub both_left : (a b : Bool) → both a b ≡ true → a ≡ true
unfolding both
both_left true b h = refl
both_left false b h = h

pub both_right : (a b : Bool) → both a b ≡ true → b ≡ true
unfolding both
both_right true b h = h
both_right false b h = absurd (mathlib.Core.Bool.false≢true h)

pub both_of : {a b : Bool} → a ≡ true → b ≡ true → both a b ≡ true
unfolding both
both_of {a} {b} p q = ap₂ both p q

-- a test beside one that passes
pub both_true : (t : Bool) → both t true ≡ t
unfolding both
both_true true = refl
both_true false = refl

pub every_at : (l : List Bool) → every l ≡ true → (i : ℕ) → get_or l i true ≡ true
unfolding every
every_at [] h i = refl
every_at (x ∷ xs) h zero = and_left x (every xs) h
every_at (x ∷ xs) h (suc i) = every_at xs (and_right x (every xs) h) i

pub cons_same : {a b : Bool} {l m : List Bool} → a ≡ b → l ≡ m → ◌≡◌ {A = List Bool} (a ∷ l) (b ∷ m)
cons_same p q = λ i. p i ∷ q i

-- a test that cannot hold
pub never : (t : Bool) → (t ≡ true → ⊥) → t ≡ false
never true h = absurd (h refl)
never false h = refl

pub iff_eq : (a b : Bool) → (a ≡ true → b ≡ true) → (b ≡ true → a ≡ true) → a ≡ b
iff_eq true b f g = sym (f refl)
iff_eq false true f g = g refl
iff_eq false false f g = refl

-- tables that pass the test are equal
same_row_is : (l m : List ℕ) → same_row l m ≡ true → l ≡ m
unfolding same_row
same_row_is [] [] h = refl
same_row_is [] (y ∷ ys) h = absurd (mathlib.Core.Bool.false≢true h)
same_row_is (x ∷ xs) [] h = absurd (mathlib.Core.Bool.false≢true h)
same_row_is (x ∷ xs) (y ∷ ys) h = let p = eqb-true x y (both_left _ _ h) in let q = same_row_is xs ys (both_right _ _ h) in λ i. p i ∷ q i

pub same_table_is : (l m : List (List ℕ)) → same_table l m ≡ true → l ≡ m
unfolding same_table
same_table_is [] [] h = refl
same_table_is [] (y ∷ ys) h = absurd (mathlib.Core.Bool.false≢true h)
same_table_is (x ∷ xs) [] h = absurd (mathlib.Core.Bool.false≢true h)
same_table_is (x ∷ xs) (y ∷ ys) h = let p = same_row_is x y (both_left _ _ h) in let q = same_table_is xs ys (both_right _ _ h) in λ i. p i ∷ q i
