-- Sums over the numbers below k, the pigeonhole, and counting by a key.
use Rattle.std.specs.Prelude.{◌≡◌, refl, Bool, true, false, not, ℕ, zero, suc, ◌+◌, ◌≤◌, ◌<◌, eqb}
use Rattle.std.proofs.Common.{sym, ap, ap₂, ◌∙◌, ⊎_elim, arith, eq-or-lt_of_le, eqb-true, ne_eqb}
use Rattle.std.proofs.lemmas.Bool.{eqb-false}
use Rattle.base.specs.Tests.{pick, both, count}

-- F 0 + F 1 + ..: k terms
unfoldable pub sum : ℕ → (ℕ → ℕ) → ℕ
sum zero F = 0
sum (suc k) F = F k + sum k F

pub sum_same : (k : ℕ) (F G : ℕ → ℕ) → ((i : ℕ) → i < k → F i ≡ G i) → sum k F ≡ sum k G
unfolding sum
sum_same zero F G h = refl
sum_same (suc k) F G h = ap₂ ◌+◌ (h k (omega arith)) (sum_same k F G (λ i l. h i (omega arith)))

pub sum_add : (k : ℕ) (F G : ℕ → ℕ) → sum k (λ i. F i + G i) ≡ sum k F + sum k G
unfolding sum
sum_add zero F G = refl
sum_add (suc k) F G = omega (arith, sum_add k F G)

pub sum_nil : (k : ℕ) → sum k (λ _. 0) ≡ 0
unfolding sum
sum_nil zero = refl
sum_nil (suc k) = omega (arith, sum_nil k)

pub sum_ones : (k : ℕ) → sum k (λ _. 1) ≡ k
unfolding sum
sum_ones zero = refl
sum_ones (suc k) = omega (arith, sum_ones k)

pub sum_le : (k : ℕ) (F G : ℕ → ℕ) → ((i : ℕ) → i < k → F i ≤ G i) → sum k F ≤ sum k G
unfolding sum
sum_le zero F G h = omega arith
sum_le (suc k) F G h = omega (arith, h k (omega arith), sum_le k F G (λ i l. h i (omega arith)))

-- terms of at most 1
pub sum_most : (k : ℕ) (F : ℕ → ℕ) → ((i : ℕ) → i < k → F i ≤ 1) → sum k F ≤ k
sum_most k F h = omega (arith, sum_le k F (λ _. 1) h, sum_ones k)

-- the pigeonhole: nowhere more, and the same in all, is the same everywhere
pub sum_equal : (k : ℕ) (F G : ℕ → ℕ) → ((i : ℕ) → i < k → F i ≤ G i) → sum k F ≡ sum k G → (i : ℕ) → i < k → F i ≡ G i
unfolding sum
sum_equal zero F G h q i l = absurd (omega arith)
sum_equal (suc k) F G h q i l =
    let a = h k (omega arith) in
    let b = sum_le k F G (λ j m. h j (omega arith)) in
    let m : i ≤ k = omega arith in
    ⊎_elim (λ z. rw z (omega arith)) (λ m. sum_equal k F G (λ j m. h j (omega arith)) (omega arith) i m) (eq-or-lt_of_le m)

-- x is one of s+1..s+k, or none
pub sum_none : (s k x : ℕ) → s + k < x → sum k (λ i. pick (eqb (suc (s + i)) x) 1 0) ≡ 0
unfolding sum
sum_none s zero x h = refl
sum_none s (suc k) x h = ap₂ (λ (t : Bool) (n : ℕ). pick t 1 0 + n) (ne_eqb (suc (s + k)) x (λ z. omega arith)) (sum_none s k x (omega arith))

pub sum_here : (s k x : ℕ) → s < x → x ≤ s + k → sum k (λ i. pick (eqb (suc (s + i)) x) 1 0) ≡ 1
unfolding sum
sum_here s zero x h l = absurd (omega arith)
sum_here s (suc k) x h l = go (eqb (suc (s + k)) x) refl (sum_here s k x h)
  where
    go : (t : Bool) → eqb (suc (s + k)) x ≡ t → (x ≤ s + k → sum k (λ i. pick (eqb (suc (s + i)) x) 1 0) ≡ 1) → pick t 1 0 + sum k (λ i. pick (eqb (suc (s + i)) x) 1 0) ≡ 1
    go true q ih = let z = eqb-true (suc (s + k)) x q in omega (arith, sum_none s k x (omega arith))
    go false q ih = let z = eqb-false (suc (s + k)) x q in omega (arith, ih (omega arith))

-- a count is a sum of ones; of a test that only x passes it is 1, of one that none passes 0
pub count_sum : (k : ℕ) (P : ℕ → Bool) → count k P ≡ sum k (λ i. pick (P i) 1 0)
unfolding count sum
count_sum zero P = refl
count_sum (suc k) P = ap (λ (n : ℕ). pick (P k) 1 0 + n) (count_sum k P)

pub count_only : (s k x : ℕ) (P : ℕ → Bool) → s < x → x ≤ s + k → ((i : ℕ) → i < k → P i ≡ eqb (suc (s + i)) x) → count k P ≡ 1
count_only s k x P l h q = count_sum k P ∙ sum_same k _ _ (λ i m. ap (λ (t : Bool). pick t 1 0) (q i m)) ∙ sum_here s k x l h

pub count_nil : (k : ℕ) (P : ℕ → Bool) → ((i : ℕ) → i < k → P i ≡ false) → count k P ≡ 0
count_nil k P q = count_sum k P ∙ sum_same k _ _ (λ i m. ap (λ (t : Bool). pick t 1 0) (q i m)) ∙ sum_nil k

-- each passes or does not
pub count_both : (k : ℕ) (P : ℕ → Bool) → count k P + count k (λ i. not (P i)) ≡ k
unfolding count
count_both zero P = refl
count_both (suc k) P = go (P k) (count_both k P)
  where
    go : (t : Bool) → count k P + count k (λ i. not (P i)) ≡ k → (pick t 1 0 + count k P) + (pick (not t) 1 0 + count k (λ i. not (P i))) ≡ suc k
    go true q = omega arith
    go false q = omega arith

-- what passes, counted key by key, where the key of each is one of s+1..s+n
pub count_by : (s n m : ℕ) (P : ℕ → Bool) (K : ℕ → ℕ) → ((i : ℕ) → i < m → P i ≡ true → (s < K i) × (K i ≤ s + n))
    → count m P ≡ sum n (λ j. count m (λ i. both (P i) (eqb (suc (s + j)) (K i))))
unfolding count both
count_by s n zero P K h = sym (sum_nil n)
count_by s n (suc m) P K h =
    ap₂ ◌+◌ (sym (here (P m) refl)) (count_by s n m P K (λ i l. h i (omega arith)))
    ∙ sym (sum_add n (λ j. pick (both (P m) (eqb (suc (s + j)) (K m))) 1 0) (λ j. count m (λ i. both (P i) (eqb (suc (s + j)) (K i)))))
  where
    here : (t : Bool) → P m ≡ t → sum n (λ j. pick (both t (eqb (suc (s + j)) (K m))) 1 0) ≡ pick t 1 0
    here true q = let k = h m (omega arith) q in sum_here s n (K m) k.0 k.1
    here false q = sum_nil n
