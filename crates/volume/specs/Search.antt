-- Searches among numbers in a row, and what they find.
use Rattle.std.specs.Prelude.{◌≡◌, refl, ◌≢◌, Bool, true, false, ℕ, zero, suc, ◌+◌, ◌≤◌, ◌<◌, eqb}
use Rattle.std.proofs.Common.{ap, ap₂, ◌∙◌, arith, eqb-true}
use Rattle.std.proofs.lemmas.Bool.{eqb-false}
use Rattle.base.specs.Tests.{pick, count}

-- the least of k, k + 1, .., n of them, that passes, or 0
unfoldable pub seek : ℕ → ℕ → (ℕ → Bool) → ℕ
seek zero k P = 0
seek (suc n) k P = elim (P k) [ true ↦ k | false ↦ seek n (suc k) P ]

-- the greatest of l, l + 1, .., n of them, that passes, or 0
unfoldable pub down : ℕ → ℕ → (ℕ → Bool) → ℕ
down l zero P = 0
down l (suc n) P = elim (P (l + n)) [ true ↦ l + n | false ↦ down l n P ]

-- ---- the least and the greatest

-- j is what a search for P between a and e (a ≤ i < e) from below finds: the least, or 0 if there is none
pub record Least (P : ℕ → Bool) (a e j : ℕ) : Type 0 where
  pub hit : j ≢ 0 → (P j ≡ true) × ((a ≤ j) × (j < e))
  pub none : (i : ℕ) → a ≤ i → i < e → (j ≢ 0 → i < j) → P i ≡ false

-- from above: the greatest, or 0 if none but 0 passes
pub record Greatest (P : ℕ → Bool) (a e j : ℕ) : Type 0 where
  pub hit : j ≢ 0 → (P j ≡ true) × ((a ≤ j) × (j < e))
  pub none : (i : ℕ) → 0 < i → a ≤ i → i < e → (j ≢ 0 → j < i) → P i ≡ false

pub seek_least : (n k : ℕ) (P : ℕ → Bool) → 0 < k → Least P k (k + n) (seek n k P)
unfolding seek
seek_least zero k P p = record { hit = λ n. absurd (n refl); none = λ i l m _. absurd (omega arith) }
seek_least (suc n) k P p = go (P k) refl (seek_least n (suc k) P (omega arith))
  where
    go : (t : Bool) → P k ≡ t → Least P (suc k) (suc k + n) (seek n (suc k) P) → Least P k (k + suc n) (elim t [ true ↦ k | false ↦ seek n (suc k) P ])
    go true q ih = record { hit = λ n. (q, (omega arith, omega arith)); none = λ i l m u. absurd (omega (arith, u (λ z. omega arith))) }
    go false q ih = record {
      hit = λ n. let h = ih.hit n in (h.0, (omega (arith, h.1.0), omega (arith, h.1.1)));
      none = λ i l m u. at i l m u (eqb i k) refl;
    }
      where
        at : (i : ℕ) → k ≤ i → i < k + suc n → (seek n (suc k) P ≢ 0 → i < seek n (suc k) P) → (x : Bool) → eqb i k ≡ x → P i ≡ false
        at i l m u true z = ap P (eqb-true i k z) ∙ q
        at i l m u false z = ih.none i (omega (arith, eqb-false i k z)) (omega arith) u

pub down_greatest : (l n : ℕ) (P : ℕ → Bool) → Greatest P l (l + n) (down l n P)
unfolding down
down_greatest l zero P = record { hit = λ n. absurd (n refl); none = λ i p a m _. absurd (omega arith) }
down_greatest l (suc n) P = go (P (l + n)) refl (down_greatest l n P)
  where
    go : (t : Bool) → P (l + n) ≡ t → Greatest P l (l + n) (down l n P) → Greatest P l (l + suc n) (elim t [ true ↦ l + n | false ↦ down l n P ])
    go true q ih = record { hit = λ n. (q, (omega arith, omega arith)); none = λ i p a m u. absurd (omega (arith, u (λ z. omega arith))) }
    go false q ih = record {
      hit = λ n. let h = ih.hit n in (h.0, (h.1.0, omega (arith, h.1.1)));
      none = λ i p a m u. at i p a m u (eqb i (l + n)) refl;
    }
      where
        at : (i : ℕ) → 0 < i → l ≤ i → i < l + suc n → (down l n P ≢ 0 → down l n P < i) → (x : Bool) → eqb i (l + n) ≡ x → P i ≡ false
        at i p a m u true z = ap P (eqb-true i (l + n) z) ∙ q
        at i p a m u false z = ih.none i p a (omega (arith, eqb-false i (l + n) z)) u

-- equal tests
pub seek_same : (n k : ℕ) (P Q : ℕ → Bool) → ((i : ℕ) → P i ≡ Q i) → seek n k P ≡ seek n k Q
unfolding seek
seek_same zero k P Q h = refl
seek_same (suc n) k P Q h = ap₂ (λ (t : Bool) (r : ℕ). elim t [ true ↦ k | false ↦ r ]) (h k) (seek_same n (suc k) P Q h)

pub down_same : (l n : ℕ) (P Q : ℕ → Bool) → ((i : ℕ) → P i ≡ Q i) → down l n P ≡ down l n Q
unfolding down
down_same l zero P Q h = refl
down_same l (suc n) P Q h = ap₂ (λ (t : Bool) (r : ℕ). elim t [ true ↦ l + n | false ↦ r ]) (h (l + n)) (down_same l n P Q h)

pub count_same : (n : ℕ) (P Q : ℕ → Bool) → ((i : ℕ) → P i ≡ Q i) → count n P ≡ count n Q
unfolding count
count_same zero P Q h = refl
count_same (suc n) P Q h = ap₂ (λ (t : Bool) (r : ℕ). pick t 1 0 + r) (h n) (count_same n P Q h)
