-- Link order: the next present key above and below, the least, and how many there are.
use Rattle.std.specs.Prelude.{◌≡◌, refl, ◌≢◌, Bool, true, false, ltb, eqb}
use Rattle.std.proofs.Common.{sym, ◌∙◌, true≢false, ltb-true, ltb-false, eqb-true}
use Rattle.std.proofs.Math.Path.{ap}
use Prim.Native.Nat.{ℕ, zero, suc, ◌+◌, ◌-◌, ◌≤◌, ◌<◌}
use native.Mathlib.Omega.{arith}
use Rattle.std.proofs.lemmas.Bool.{eqb-false}
use Rattle.base.specs.Tests.{count}
use Rattle.base.specs.Laws.{never}
use Rattle.base.specs.Sums.{count_nil}
use Rattle.image.specs.View.{View}
use Rattle.volume.specs.Search.{seek, down, Least, Greatest, seek_least, down_greatest}
use Rattle.volume.specs.Keys.{home, low, reach, span}
use Rattle.volume.proofs.KeyLaws.{low_pos, span_end}
use Rattle.volume.specs.Files.{well_formed, len, present, above, below, least, size}
use Rattle.volume.specs.declared.Partition.{Partition}
use Rattle.volume.proofs.Index.{wf_of, present_low, present_high, present_home}

-- ---- of a test of numbers

-- j is the next number above k that passes, or 0 if none does; below k
pub record Next (P : ℕ → Bool) (k j : ℕ) : Type 0 where
  pub hit : j ≢ 0 → (P j ≡ true) × (k < j)
  pub none : (i : ℕ) → k < i → (j ≢ 0 → i < j) → P i ≡ false

pub record Prev (P : ℕ → Bool) (k j : ℕ) : Type 0 where
  pub hit : j ≢ 0 → (P j ≡ true) × (j < k)
  pub none : (i : ℕ) → 0 < i → i < k → (j ≢ 0 → j < i) → P i ≡ false

clash : {A : Type 0} {t : Bool} → t ≡ true → t ≡ false → A
clash p q = absurd (true≢false (sym p ∙ q))

-- numbers that are 0 together, and of which neither comes before the other
only : (i j : ℕ) → (i ≢ 0 → j ≡ 0 → ⊥) → (j ≢ 0 → i ≡ 0 → ⊥) → (i ≢ 0 → j ≢ 0 → i < j → ⊥) → (i ≢ 0 → j ≢ 0 → j < i → ⊥) → i ≡ j
only i j x y l g = go (eqb i 0) refl (eqb j 0) refl
  where
    go : (t : Bool) → eqb i 0 ≡ t → (u : Bool) → eqb j 0 ≡ u → i ≡ j
    go true p true q = eqb-true i 0 p ∙ sym (eqb-true j 0 q)
    go true p false q = absurd (y (eqb-false j 0 q) (eqb-true i 0 p))
    go false p true q = absurd (x (eqb-false i 0 p) (eqb-true j 0 q))
    go false p false q =
        let n = eqb-false i 0 p in
        let m = eqb-false j 0 q in
        omega (arith, ltb-false i j (never _ (λ z. l n m (ltb-true i j z))), ltb-false j i (never _ (λ z. g n m (ltb-true j i z))))

module _ (P : ℕ → Bool) where
  -- there is one such
  pub next_one : (k i j : ℕ) → Next P k i → Next P k j → i ≡ j
  next_one k i j a b = only i j
      (λ n z. let h = a.hit n in clash h.0 (b.none i h.1 (λ m. absurd (m z))))
      (λ n z. let h = b.hit n in clash h.0 (a.none j h.1 (λ m. absurd (m z))))
      (λ n m l. let h = a.hit n in clash h.0 (b.none i h.1 (λ _. l)))
      (λ n m l. let h = b.hit m in clash h.0 (a.none j h.1 (λ _. l)))

  pub prev_one : (k i j : ℕ) → Prev P k i → Prev P k j → i ≡ j
  prev_one k i j a b = only i j
      (λ n z. let h = a.hit n in clash h.0 (b.none i (omega arith) h.1 (λ m. absurd (m z))))
      (λ n z. let h = b.hit n in clash h.0 (a.none j (omega arith) h.1 (λ m. absurd (m z))))
      (λ n m l. let h = b.hit m in clash h.0 (a.none j (omega arith) h.1 (λ _. l)))
      (λ n m l. let h = a.hit n in clash h.0 (b.none i (omega arith) h.1 (λ _. l)))

  -- above and below are inverse on numbers that pass
  pub next_prev : (k j : ℕ) → 0 < k → P k ≡ true → j ≢ 0 → Next P k j → Prev P j k
  next_prev k j p h n a = record { hit = λ _. (h, (a.hit n).1); none = λ i _ l m. a.none i (m (λ z. omega arith)) (λ _. l) }

  -- a count up to any bound past what passes
  pub count_split : (a m : ℕ) → count (a + m) P ≡ count a P + count m (λ i. P (a + i))
  unfolding count
  count_split a zero = omega (arith, ap (λ (x : ℕ). count x P) (let z : a + 0 ≡ a = omega arith in z))
  count_split a (suc m) =
      ap (λ (x : ℕ). count x P) (let z : a + suc m ≡ suc (a + m) = omega arith in z)
      ∙ omega (arith, count_split a m)

  pub count_window : (a m e : ℕ) → ((i : ℕ) → P i ≡ true → (a ≤ i) × (i < a + m)) → a + m ≤ e → count m (λ i. P (a + i)) ≡ count e P
  count_window a m e h l =
      let z : e ≡ a + m + (e - (a + m)) = omega arith in
      omega (
        arith,
        ap (λ (x : ℕ). count x P) z,
        count_split (a + m) (e - (a + m)),
        count_split a m,
        count_nil a P (λ i l. never _ (λ t. omega (arith, (h i t).0))),
        count_nil (e - (a + m)) (λ i. P (a + m + i)) (λ i l. never _ (λ t. omega (arith, (h (a + m + i) t).1))),
      )

  -- ---- searches over all numbers that may pass: up to e, from a on, and between them

  pub seek_next : (e : ℕ) → ((i : ℕ) → P i ≡ true → i ≤ e) → (k n : ℕ) → e < suc k + n → Next P k (seek n (suc k) P)
  seek_next e top k n l = record { hit = λ m. ((s.hit m).0, (s.hit m).1.0); none = λ i b m. never _ (λ p. clash p (s.none i b (omega (arith, top i p)) m)) }
    where
      s : Least P (suc k) (suc k + n) (seek n (suc k) P)
      s = seek_least n (suc k) P (omega arith)

  pub down_prev : (a : ℕ) → ((i : ℕ) → P i ≡ true → a ≤ i) → (k : ℕ) → Prev P k (down a (k - a) P)
  down_prev a low k = record { hit = λ m. ((s.hit m).0, omega (arith, (s.hit m).1)); none = λ i b l m. never _ (λ p. clash p (s.none i b (low i p) (omega (arith, low i p)) m)) }
    where
      s : Greatest P a (a + (k - a)) (down a (k - a) P)
      s = down_greatest a (k - a) P

  pub seek_first : (a e : ℕ) → 0 < a → ((i : ℕ) → P i ≡ true → (a ≤ i) × (i ≤ e)) → (n : ℕ) → e < a + n → Next P 0 (seek n a P)
  seek_first a e pos inn n l = record { hit = λ m. ((s.hit m).0, omega (arith, (s.hit m).1.0)); none = λ i b m. never _ (λ p. clash p (s.none i (inn i p).0 (omega (arith, (inn i p).1)) m)) }
    where
      s : Least P a (a + n) (seek n a P)
      s = seek_least n a P pos

-- ---- of a file

module _ (π : Partition) (v : View) (f : ℕ) where
  -- above and below find the next present key and skip none
  pub above_next : (k : ℕ) → Next (present π v f) k (above π v f k)
  unfolding above
  above_next k = seek_next (present π v f) (home + len v f) (present_high π v f) k (home + len v f - k) (omega arith)

  pub below_prev : (k : ℕ) → Prev (present π v f) k (below π v f k)
  unfolding below
  below_prev k = down_prev (present π v f) (low (len v f)) (present_low π v f) k

  -- blocks in use: the present keys, counted up to any bound past the last
  pub size_is : (e : ℕ) → home + len v f < e → size π v f ≡ count e (present π v f)
  unfolding size
  size_is e l =
      count_window (present π v f) (low (len v f)) (span (len v f)) e
      (λ i p. (present_low π v f i p, omega (arith, present_high π v f i p, span_end (len v f)))) (omega (arith, span_end (len v f)))

  module _ (short : len v f ≤ reach) where
    -- the least present key: the next above 0, and not behind the FIB
    pub least_is : Next (present π v f) 0 (least π v f)
    unfolding least
    least_is = seek_first (present π v f) (low (len v f)) (home + len v f) (low_pos (len v f) short) (λ i p. (present_low π v f i p, present_high π v f i p)) (span (len v f)) (omega (arith, span_end (len v f)))

    pub least_most : least π v f ≤ home
    least_most = go (ltb home (least π v f)) refl
      where
        go : (t : Bool) → ltb home (least π v f) ≡ t → least π v f ≤ home
        go true q = clash (present_home π v f) (least_is.none home (omega arith) (λ _. ltb-true home (least π v f) q))
        go false q = ltb-false home (least π v f) q

  module _ (h : well_formed π v f ≡ true) where
    pub least_present : (least π v f ≢ 0) × (present π v f (least π v f) ≡ true)
    least_present = (ne, ((least_is (wf_of π v f h).short).hit ne).0)
      where
        ne : least π v f ≢ 0
        ne z = clash (present_home π v f) ((least_is (wf_of π v f h).short).none home (omega arith) (λ n. absurd (n z)))

    pub above_below : (k : ℕ) → present π v f k ≡ true → above π v f k ≢ 0 → below π v f (above π v f k) ≡ k
    above_below k p n =
        prev_one (present π v f) (above π v f k) _ k (below_prev (above π v f k))
        (next_prev (present π v f) k (above π v f k) (omega (arith, present_low π v f k p, low_pos (len v f) (wf_of π v f h).short)) p n (above_next k))
