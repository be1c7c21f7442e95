-- Laws for code that goes by tests: a list of tests with one that fails, loops that test each number below k, searches.
use Rattle.std.specs.Prelude.{◌≡◌, refl, List, [], ◌∷◌, Bool, true, false, ◌&&◌, ℕ, zero, suc, ◌+◌, ◌-◌, ◌*◌, ◌≤◌, ◌<◌, eqb, get_or, Option, Some, None, min}
use Rattle.std.proofs.Common.{sym, ◌∙◌, ⊎_elim, true≢false, eq-or-lt_of_le, arith, rules, eq-eqb, ne_eqb}
use Rattle.std.proofs.lemmas.Bool.{not-true, not-false}
use Rattle.base.specs.Tests.{both, every, all}
use Rattle.base.specs.Laws.{all_at, all_of, never}
use Rattle.volume.specs.Answers.{lowest}

-- a test that fails decides the list
pub every_no : (l : List Bool) (i : ℕ) → get_or l i true ≡ false → every l ≡ false
unfolding every
every_no [] i h = absurd (true≢false h)
every_no (x ∷ xs) zero h = rw h
every_no (x ∷ xs) (suc i) h = go x (every_no xs i h)
  where
    go : (t : Bool) → every xs ≡ false → (t && every xs) ≡ false
    go true q = q
    go false q = refl

pub every_nil : every [] ≡ true
unfolding every
every_nil = refl

pub every_cons : {x : Bool} (xs : List Bool) → x ≡ true → every xs ≡ true → every (x ∷ xs) ≡ true
unfolding every
every_cons xs h k = rw (h, k)

pub both_no : (a b : Bool) → a ≡ false → both a b ≡ false
unfolding both
both_no a b h = rw (h, both)

pub both_no_2 : (a b : Bool) → b ≡ false → both a b ≡ false
unfolding both
both_no_2 true b h = h
both_no_2 false b h = refl

-- one that fails decides all
pub all_no : (k : ℕ) (P : ℕ → Bool) (i : ℕ) → i < k → P i ≡ false → all k P ≡ false
all_no k P i l h = never _ (λ q. true≢false (sym (all_at k P q i l) ∙ h))

pub all_fewer : (k m : ℕ) (P : ℕ → Bool) → m ≤ k → all m P ≡ false → all k P ≡ false
all_fewer k m P l h = never _ (λ q. true≢false (sym (all_of m P (λ i j. all_at k P q i (omega arith))) ∙ h))

-- each number below i passed, of k; w is the answer of the whole
pub record Passed (P : ℕ → Bool) (k i : ℕ) (w : Bool) : Type 0 where
  pub each : (j : ℕ) → j < i → P j ≡ true
  pub is : w ≡ all k P

pub pass_starts : {P : ℕ → Bool} {k : ℕ} → Passed P k 0 (all k P)
pass_starts = record { each = λ j l. absurd (omega arith); is = refl }

one_more : (P : ℕ → Bool) (i : ℕ) → ((j : ℕ) → j < i → P j ≡ true) → P i ≡ true → (j : ℕ) → j < i + 1 → P j ≡ true
one_more P i f h j l = let m : j ≤ i = omega arith in ⊎_elim (λ q. rw q h) (λ m. f j m) (eq-or-lt_of_le m)

module _ {P : ℕ → Bool} {k i : ℕ} {w : Bool} (s : Passed P k i w) where
  pub pass_next : {r : Bool} → r ≡ P i → r ≡ true → Passed P k (i + 1) w
  pass_next q t = record { each = one_more P i s.each (sym q ∙ t); is = s.is }

  pub pass_fails : {r : Bool} → i < k → r ≡ P i → r ≡ false → false ≡ w
  pass_fails l q t = sym (s.is ∙ all_no k P i l (sym q ∙ t))

  pub pass_end : k ≤ i → true ≡ w
  pass_end l = sym (s.is ∙ all_of k P (λ j m. s.each j (omega arith)))

pub ruleset passes = (pass_starts, pass_next, pass_fails, pass_end, not-true, not-false, rules)

-- what is left up to e at b: one and the rest, or none
pub more : {b e : ℕ} → b < e → e - b ≡ suc (e - (b + 1))
more l = omega arith

pub none : {b e : ℕ} → e ≤ b → e - b ≡ zero
none l = omega arith

-- a search finds a number in its range
pub lowest_at : (p : ℕ → Bool) (a n f : ℕ) → lowest p a n ≡ Some f → f < a + n
unfolding lowest
lowest_at p a zero f q = let z : ◌≡◌ {A = ℕ} 0 1 = cc in absurd (omega arith)
lowest_at p a (suc n) f q = go (p a) q (lowest_at p (a + 1) n f)
  where
    go : (t : Bool) → elim t [ true ↦ Some a | false ↦ lowest p (a + 1) n ] ≡ Some f → (lowest p (a + 1) n ≡ Some f → f < a + 1 + n) → f < a + suc n
    go true q ih = let z : a ≡ f = cc in omega arith
    go false q ih = let z = ih q in omega arith

-- and one that passes
pub lowest_passes : (p : ℕ → Bool) (a n f : ℕ) → lowest p a n ≡ Some f → p f ≡ true
unfolding lowest
lowest_passes p a zero f q = let z : ◌≡◌ {A = ℕ} 0 1 = cc in absurd (omega arith)
lowest_passes p a (suc n) f q = go (p a) refl q (lowest_passes p (a + 1) n f)
  where
    go : (t : Bool) → p a ≡ t → elim t [ true ↦ Some a | false ↦ lowest p (a + 1) n ] ≡ Some f → (lowest p (a + 1) n ≡ Some f → p f ≡ true) → p f ≡ true
    go true h q ih = let z : a ≡ f = cc in rw (← z) h
    go false h q ih = ih q

-- a search up to e that is at b: what is left to search has the whole's answer
pub record Searching (p : ℕ → Bool) (e b : ℕ) (w : Option ℕ) : Type 0 where
  pub left : lowest p b (e - b) ≡ w

pub search_starts_as : (p : ℕ → Bool) (a e n : ℕ) → n ≡ e - a → Searching p e a (lowest p a n)
search_starts_as p a e n h = rw h (record { left = refl })

module _ {p : ℕ → Bool} {e b : ℕ} {w : Option ℕ} (s : Searching p e b w) where
  pub search_hit : {r : Bool} → b < e → r ≡ p b → r ≡ true → Some b ≡ w
  unfolding lowest
  search_hit l q t = rw (more l, ← q, t, lowest) at s.left

  pub search_next : {r : Bool} → b < e → r ≡ p b → r ≡ false → Searching p e (b + 1) w
  unfolding lowest
  search_next l q t = record { left = rw (more l, ← q, t, lowest) at s.left }

  pub search_end : e ≤ b → None ≡ w
  unfolding lowest
  search_end l = rw (none l) at s.left

pub ruleset searches = (search_hit, search_next, search_end, rules)

-- an index of k entries and p pointer blocks: pointer tests P passed below i, entry tests Q below b; w is the answer of the whole
pub record Indexed (P Q : ℕ → Bool) (p k i b : ℕ) (w : Bool) : Type 0 where
  pub ptrs : (j : ℕ) → j < i → P j ≡ true
  pub dat : (r : ℕ) → r < k → r < b → Q r ≡ true
  pub is : w ≡ both (all p P) (all k Q)

pub index_starts : (P Q : ℕ → Bool) (p k m : ℕ) {r : Bool} → r ≡ all m Q → r ≡ true → m ≡ min k 64 → Indexed P Q p k 0 (64 + 128 * 0) (both (all p P) (all k Q))
index_starts P Q p k m q t h = record { ptrs = λ j l. absurd (omega arith); dat = λ r l u. all_at m Q (sym q ∙ t) r (omega arith); is = refl }

pub index_few_fails : (P Q : ℕ → Bool) (p k m : ℕ) {r : Bool} → m ≤ k → r ≡ all m Q → r ≡ false → false ≡ both (all p P) (all k Q)
index_few_fails P Q p k m l q t = sym (both_no_2 (all p P) _ (all_fewer k m Q l (sym q ∙ t)))

module _ {P Q : ℕ → Bool} {p k i b : ℕ} {w : Bool} (s : Indexed P Q p k i b w) where
  pub index_enter : {r : Bool} → r ≡ P i → r ≡ true → Indexed P Q p k (i + 1) (b + 0) w
  index_enter q t = record { ptrs = one_more P i s.ptrs (sym q ∙ t); dat = λ r l u. s.dat r l (omega arith); is = s.is }

  pub index_next : {r : Bool} → r ≡ Q b → r ≡ true → (b' : ℕ) → b' ≡ b + 1 → Indexed P Q p k i b' w
  index_next q t b' h = record { ptrs = s.ptrs; dat = λ r l u. (let m : r ≤ b = omega arith in ⊎_elim (λ j. rw j (sym q ∙ t)) (λ m. s.dat r l m) (eq-or-lt_of_le m)); is = s.is }

  pub index_to : (b' : ℕ) → ((r : ℕ) → r < k → r < b' → r < b) → Indexed P Q p k i b' w
  index_to b' h = record { ptrs = s.ptrs; dat = λ r l u. s.dat r l (h r l u); is = s.is }

  pub index_end : p ≤ i → k ≤ b → true ≡ w
  index_end l h = sym (s.is ∙ Rattle.base.specs.Laws.both_of (all_of p P (λ j m. s.ptrs j (omega arith))) (all_of k Q (λ r m. s.dat r m (omega arith))))

  pub index_ptr_fails : {r : Bool} → i < p → r ≡ P i → r ≡ false → false ≡ w
  index_ptr_fails l q t = sym (s.is ∙ both_no (all p P) _ (all_no p P i l (sym q ∙ t)))

  pub index_data_fails : {r : Bool} → b < k → r ≡ Q b → r ≡ false → false ≡ w
  index_data_fails l q t = sym (s.is ∙ both_no_2 (all p P) _ (all_no k Q b l (sym q ∙ t)))

-- tests over what the code read
pub ne_of : {x y a b : ℕ} → x ≡ a → y ≡ b → (x ≡ y → ⊥) → eqb a b ≡ false
ne_of {x} {y} {a} {b} p q h = ne_eqb a b (λ j. h (p ∙ j ∙ sym q))

pub eq_of : {x y a b : ℕ} → x ≡ a → y ≡ b → x ≡ y → eqb a b ≡ true
eq_of {x} {y} {a} {b} p q h = eq-eqb a b (sym p ∙ h ∙ q)

pub and_true : (a : Bool) → (a && true) ≡ a
and_true true = refl
and_true false = refl

pub lowest_nothing : (p : ℕ → Bool) (a n : ℕ) → n ≡ 0 → None ≡ lowest p a n
unfolding lowest
lowest_nothing p a n h = rw h
