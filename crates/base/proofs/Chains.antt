-- What chains of iterators answer, in the words of Tests: `all` and `find` over a range of numbers, `all` over two slices side by side, and a place.
use Rattle.std.specs.Prelude.{◌≡◌, refl, Bool, true, List, [], ◌∷◌, length, get_or, Option, Some, None, unwrap_or, cond, not, ltb, false, ℕ, zero, suc, ◌+◌, ◌-◌, ◌<◌, ◌≤◌}
use Rattle.std.proofs.Common.{Bor, sym, ◌∙◌, ⊎_elim, eq-or-lt_of_le, ap, arith}
use Rattle.std.proofs.lemmas.Bool.{cases_lt, ltb-false}
use Rattle.std.proofs.lemmas.List.Sums.{prefix_len-le-length}
use Rattle.std.proofs.iter.Yields.{nat_range_steps}
use Rattle.std.proofs.lemmas.Iterator.{YieldsList-from_range}
use Rattle.std.proofs.lemmas.Iterator.Search.{all_from_yields_List, find_from_yields_List}
use Rattle.std.proofs.lemmas.Iterator.Adapters.{option_map_id}
use Rattle.std.specs.Fn.{Called, CalledAt}
use Rattle.std.specs.Iterator.{ChecksAll, FindsItem}
use Rattle.std.specs.List.{list_all, find, range_with_len, zip, position_or_len}
use Rattle.std.specs.declared.ops.Range.{Range}
use denote.Param.Members.{Mut}
use Rattle.base.specs.Tests.{pick, all, those, head_of}
use Rattle.base.specs.Laws.{and_left, and_right, and_both, iff_eq, all_of, all_at}

-- each of the n numbers from a on passes, and back
list_all_at : (p : ℕ → Bool) (a n : ℕ) → list_all p (range_with_len a n) ≡ true → (i : ℕ) → a ≤ i → i < a + n → p i ≡ true
list_all_at p a zero h i l m = absurd (omega arith)
list_all_at p a (suc n) h i l m =
    ⊎_elim (λ q. rw (← q) (and_left (p a) _ h)) (λ k. list_all_at p (a + 1) n (and_right (p a) _ h) i (omega arith) (omega arith)) (eq-or-lt_of_le l)

list_all_of : (p : ℕ → Bool) (a n : ℕ) → ((i : ℕ) → a ≤ i → i < a + n → p i ≡ true) → list_all p (range_with_len a n) ≡ true
list_all_of p a zero h = refl
list_all_of p a (suc n) h = and_both (h a (omega arith) (omega arith)) (list_all_of p (a + 1) n (λ i l m. h i (omega arith) (omega arith)))

-- t of every number from a up to e is p of every number below e, where those below a have p and t is p of the rest
pub all_list : (t p : ℕ → Bool) (a e : ℕ) → ((i : ℕ) → i < a → p i ≡ true) → ((i : ℕ) → a ≤ i → i < e → t i ≡ p i) → list_all t (range_with_len a (e - a)) ≡ all e p
all_list t p a e below rest = iff_eq _ _ (λ h. all_of e p (each h)) (λ h. list_all_of t a (e - a) (λ i l m. let z : i < e = omega arith in rest i l z ∙ all_at e p h i z))
  where
    each : list_all t (range_with_len a (e - a)) ≡ true → (i : ℕ) → i < e → p i ≡ true
    each h i l = ⊎_elim (λ m. below i m) (λ m. sym (rest i m l) ∙ list_all_at t a (e - a) h i m (omega arith)) (cases_lt i a)

-- `(a..e).all(t)`, likewise
pub all_from : {F : Type 0} {g : Mut F (ℕ × Unit {0}) Bool} (t p : ℕ → Bool) (s u : Range ℕ) (f : F) (r : Bool) → ChecksAll nat_range_steps g s f r u
    → ((i : ℕ) → i < s.start → p i ≡ true) → ((i : ℕ) → s.start ≤ i → i < s.end → t i ≡ p i)
    → ((x : ℕ) (b : Bool) (q : F) → Called g f (x, tt) b q → (q ≡ f) × (b ≡ t x)) → r ≡ all s.end p
all_from t p s u f r ran below rest test =
    all_from_yields_List t u f r ran (YieldsList-from_range s.start s.end _ refl refl) test ∙ all_list t p s.start s.end below rest

-- `(0..m).all(p)` is p of every number below m
pub all_below : {F : Type 0} {g : Mut F (ℕ × Unit {0}) Bool} (p : ℕ → Bool) (m : ℕ) (u : Range ℕ) (f : F) (r : Bool) → ChecksAll nat_range_steps g (record { start = 0; end = m }) f r u
    → ((x : ℕ) (b : Bool) (q : F) → Called g f (x, tt) b q → (q ≡ f) × (b ≡ p x)) → r ≡ all m p
all_below p m u f r ran test = all_from p p _ u f r ran (λ i l. absurd (omega arith)) (λ i l m. refl) test

-- `(a..e).find(p)`, over the n numbers of the range
pub find_from : {F : Type 0} {g : Mut F (Bor ℕ × Unit {0}) Bool} (p : ℕ → Bool) (s u : Range ℕ) (f : F) (r : Option ℕ) → FindsItem nat_range_steps g s f r u
    → ((x : ℕ) (b : Bool) (q : F) → CalledAt g f x b q → (q ≡ f) × (b ≡ p x)) → {n : ℕ} → n ≡ s.end - s.start → r ≡ find p (range_with_len s.start n)
find_from p s u f r ran test h = sym (option_map_id r) ∙ find_from_yields_List p u f r ran (YieldsList-from_range s.start s.end _ refl (sym h)) test

pub find_those : (p : ℕ → Bool) (d a n : ℕ) → unwrap_or (find p (range_with_len a n)) d ≡ head_of d (those a n p)
unfolding those head_of
find_those p d a zero = refl
find_those p d a (suc n) = go (p a) (find_those p d (a + 1) n)
  where
    go : (t : Bool) → unwrap_or (find p (range_with_len (a + 1) n)) d ≡ head_of d (those (a + 1) n p)
        → unwrap_or (cond t (Some a) (find p (range_with_len (a + 1) n))) d ≡ head_of d (pick t (a ∷ those (suc a) n p) (those (suc a) n p))
    go true h = refl
    go false h = let q : a + 1 ≡ suc a = omega arith in h ∙ ap (λ (k : ℕ). head_of d (those k n p)) q

-- a test of two lists of one length, place by place
zip_all_at : (t : ℕ → ℕ → Bool) (xs ys : List ℕ) → length xs ≡ length ys → list_all (λ p. t p.0 p.1) (zip xs ys) ≡ true → (i : ℕ) → i < length xs → t (get_or xs i 0) (get_or ys i 0) ≡ true
zip_all_at t [] ys e h i l = absurd (omega arith)
zip_all_at t (x ∷ xs) [] e h i l = absurd (omega (arith, e))
zip_all_at t (x ∷ xs) (y ∷ ys) e h zero l = and_left (t x y) _ h
zip_all_at t (x ∷ xs) (y ∷ ys) e h (suc i) l = zip_all_at t xs ys (omega (arith, e)) (and_right (t x y) _ h) i (omega arith)

zip_all_of : (t : ℕ → ℕ → Bool) (xs ys : List ℕ) → length xs ≡ length ys → ((i : ℕ) → i < length xs → t (get_or xs i 0) (get_or ys i 0) ≡ true) → list_all (λ p. t p.0 p.1) (zip xs ys) ≡ true
zip_all_of t [] ys e h = refl
zip_all_of t (x ∷ xs) [] e h = refl
zip_all_of t (x ∷ xs) (y ∷ ys) e h = and_both (h 0 (omega arith)) (zip_all_of t xs ys (omega (arith, e)) (λ i l. h (suc i) (omega arith)))

pub zip_all : (t : ℕ → ℕ → Bool) (xs ys : List ℕ) → length xs ≡ length ys → list_all (λ p. t p.0 p.1) (zip xs ys) ≡ all (length xs) (λ i. t (get_or xs i 0) (get_or ys i 0))
zip_all t xs ys e = iff_eq _ _ (λ h. all_of (length xs) _ (zip_all_at t xs ys e h)) (λ h. zip_all_of t xs ys e (all_at (length xs) _ h))

-- `xs.iter().position(t).unwrap_or(xs.len())`
pub position_or : (t : ℕ → Bool) (xs : List ℕ) {r : Option ℕ} → r ≡ cond (ltb (position_or_len t xs) (length xs)) (Some (position_or_len t xs)) None → unwrap_or r (length xs) ≡ position_or_len t xs
position_or t xs h = rw h (go (ltb (position_or_len t xs) (length xs)) refl)
  where
    go : (b : Bool) → ltb (position_or_len t xs) (length xs) ≡ b → unwrap_or (cond b (Some (position_or_len t xs)) None) (length xs) ≡ position_or_len t xs
    go true q = refl
    go false q = let l = prefix_len-le-length (λ x. not (t x)) xs in let m = ltb-false _ _ q in omega arith
