-- The closed forms of a file without holes, as laws: its link order is -(3+P) .. -4, then -3 and -2 where it has them, -1, 0 .. L.
use Rattle.std.specs.Prelude.{◌≡◌, refl, ◌⊎◌, ◌≢◌, Bool, true, false, not, ◌||◌, ◌&&◌, ℕ, zero, suc, ◌+◌, ◌-◌, ◌*◌, ◌/◌, ◌%◌, ◌≤◌, ◌<◌, ltb, eqb}
use Rattle.std.proofs.Common.{sym, ap, ◌∙◌, subst, inl, inr, arith, ltb-true, ltb-false, eqb-true, lt-ltb}
use Rattle.std.proofs.lemmas.Bool.{false≢true, eqb-false}
use Rattle.base.specs.Tests.{pick, count}
use Rattle.base.specs.Laws.{never, iff_eq}
use Rattle.base.specs.Sums.{count_nil}
use Rattle.image.specs.View.{View}
use Rattle.volume.specs.Words.{slot_at}
use Rattle.volume.specs.Keys.{home, reach, up, child, first, low}
use Rattle.volume.proofs.KeyLaws.{up_data, near_keys, closed_ptr, first_data, first_doubles, low_pos, asked_low, asked_high, child_first}
use Rattle.volume.specs.Files.{len, present, well_formed, above, below, least, size}
use Rattle.volume.specs.declared.Partition.{Partition}
use Rattle.volume.proofs.Index.{wf_of, here_of, present_home, or_of}
use Rattle.volume.proofs.Order.{Next, Prev, next_one, prev_one, above_next, below_prev, least_is, size_is, count_split}
use Rattle.volume.specs.Closed.{stays, has_key, nearest, next_key, prev_key, size_of, leading, entries_of}

-- from block 64 on that is not the first of 128
not_first : (x : ℕ) → (x + 356) % 128 ≢ 100 → 0 < x % 128
not_first x m = go (ltb 0 (x % 128)) refl
  where
    go : (t : Bool) → ltb 0 (x % 128) ≡ t → 0 < x % 128
    go true q = ltb-true 0 (x % 128) q
    go false q = absurd (m (let z = ltb-false 0 (x % 128) q in omega arith))

less_one : (x : ℕ) → 0 < x % 128 → (x - 1) / 128 ≡ x / 128
less_one x l = omega arith

group : (k : ℕ) → 355 < k → k % 128 ≢ 100 → (k - 1 - 356) / 128 ≡ (k - 356) / 128
group k l m =
    let e : k - 356 + 356 ≡ k = omega (arith, l) in
    let y : k - 1 - 356 ≡ k - 356 - 1 = omega (arith, l) in
    ap (λ (w : ℕ). w / 128) y ∙ less_one (k - 356) (not_first (k - 356) (subst (λ (w : ℕ). w % 128 ≢ 100) (sym e) m))

pub up_stays : (k : ℕ) → stays k ≡ true → (292 < k) × (up (k - 1) ≡ up k)
up_stays k h = go (ltb 292 k) refl (eqb (k % 128) 100) refl h
  where
    same : 292 < k → k % 128 ≢ 100 → (t : Bool) → ltb 355 k ≡ t → up (k - 1) ≡ up k
    same l m true q =
        let a = ltb-true 355 k q in
        let b : 356 ≢ k = λ z. m (ap (λ (x : ℕ). x % 128) (sym z)) in
        up_data (k - 1) (omega (arith, a, b)) ∙ ap (λ (x : ℕ). 288 - x) (group k a m) ∙ sym (up_data k a)
    same l m false q = let b = ltb-false 355 k q in near_keys (k - 1) (omega arith) (omega arith) ∙ sym (near_keys k (omega arith) (omega arith))

    go : (t : Bool) → ltb 292 k ≡ t → (u : Bool) → eqb (k % 128) 100 ≡ u → (t && not u) ≡ true → (292 < k) × (up (k - 1) ≡ up k)
    go true a true b h = absurd (false≢true h)
    go true a false b h = (ltb-true 292 k a, same (ltb-true 292 k a) (eqb-false (k % 128) 100 b) (ltb 355 k) refl)
    go false a u b h = absurd (false≢true h)

pub entry_asked : (n k i : ℕ) → k < home → i < 128 → ltb (first (child k (slot_at i))) n ≡ ltb i (entries_of n k)
entry_asked n k i a l = ap (λ (x : ℕ). ltb x n) (child_first k i a l) ∙ capped _ (leading n k) (among (ltb 288 k))
  where
    -- entry i is asked for exactly if it is one of those that lead to the n blocks
    same : (x y : ℕ) → (x < n → i < y) → (i < y → x < n) → ltb x n ≡ ltb i y
    same x y g h = iff_eq _ _ (λ q. lt-ltb i y (g (ltb-true x n q))) (λ q. lt-ltb x n (h (ltb-true i y q)))

    among : (t : Bool) → ltb (first k + pick t (128 * i) i) n ≡ ltb i (pick t ((n - first k + 127) / 128) (n - first k))
    among true = same (first k + 128 * i) ((n - first k + 127) / 128) (λ h. omega arith) (λ h. omega arith)
    among false = same (first k + i) (n - first k) (λ h. omega arith) (λ h. omega arith)

    capped : (t : Bool) (m : ℕ) → t ≡ ltb i m → t ≡ ltb i (pick (ltb m 128) m 128)
    capped t m h = go (ltb m 128) refl
      where
        go : (u : Bool) → ltb m 128 ≡ u → t ≡ ltb i (pick u m 128)
        go true q = h
        go false q = h ∙ lt-ltb i m (omega (arith, ltb-false m 128 q)) ∙ sym (lt-ltb i 128 l)

count_all : (m : ℕ) (P : ℕ → Bool) → ((i : ℕ) → i < m → P i ≡ true) → count m P ≡ m
unfolding count
count_all zero P h = refl
count_all (suc m) P h = rw (h m (omega arith)) (omega (arith, count_all m P (λ i l. h i (omega arith))))

-- ---- any test that holds of those keys alone

low_two : (n : ℕ) → (low n ≤ 288) ⊎ ((low n ≡ home) × (n ≤ 64))
unfolding low
low_two n = go (ltb 64 n) refl
  where
    go : (t : Bool) → ltb 64 n ≡ t → (pick t (289 - (n + 63) / 128) home ≤ 288) ⊎ ((pick t (289 - (n + 63) / 128) home ≡ home) × (n ≤ 64))
    go true q = inl (let l = ltb-true 64 n q in omega arith)
    go false q = inr (refl, ltb-false 64 n q)

-- the least key behind -4's, by how many blocks there are
nearest_is : (n : ℕ) → (20544 < n → nearest n ≡ 289) × ((4160 < n → n ≤ 20544 → nearest n ≡ 290) × (n ≤ 4160 → nearest n ≡ home))
nearest_is n = go (ltb 20544 n) refl (ltb 4160 n) refl
  where
    go : (t : Bool) → ltb 20544 n ≡ t → (u : Bool) → ltb 4160 n ≡ u
        → (20544 < n → pick t 289 (pick u 290 home) ≡ 289) × ((4160 < n → n ≤ 20544 → pick t 289 (pick u 290 home) ≡ 290) × (n ≤ 4160 → pick t 289 (pick u 290 home) ≡ home))
    go true a u b = let l = ltb-true 20544 n a in (λ _. refl, (λ x y. absurd (omega (arith, l, y)), λ x. absurd (omega (arith, l, x))))
    go false a true b = let l = ltb-true 4160 n b in let m = ltb-false 20544 n a in (λ x. absurd (omega (arith, m, x)), (λ x y. refl, λ x. absurd (omega (arith, l, x))))
    go false a false b = let m = ltb-false 4160 n b in (λ x. absurd (omega (arith, m, x)), (λ x y. absurd (omega (arith, m, x)), λ x. refl))

pub nearest_in : (n : ℕ) → (289 ≤ nearest n) × (nearest n ≤ home)
nearest_in n = go (ltb 20544 n) (ltb 4160 n)
  where
    go : (t u : Bool) → (289 ≤ pick t 289 (pick u 290 home)) × (pick t 289 (pick u 290 home) ≤ home)
    go true u = (omega arith, omega arith)
    go false true = (omega arith, omega arith)
    go false false = (omega arith, omega arith)

-- a key behind -4's is asked for exactly from there on
pub near_asked : (n k : ℕ) → nearest n ≤ k → k < home → first k < n
near_asked n k a b = go (ltb 20544 n) refl (ltb 4160 n) refl a
  where
    go : (t : Bool) → ltb 20544 n ≡ t → (u : Bool) → ltb 4160 n ≡ u → pick t 289 (pick u 290 home) ≤ k → first k < n
    go true p u q l = omega (arith, first_doubles k (omega arith) b, ltb-true 20544 n p)
    go false p true q l = omega (arith, first_doubles k (omega arith) b, ltb-true 4160 n q)
    go false p false q l = absurd (omega arith)

pub asked_near : (n k : ℕ) → 289 ≤ k → first k < n → nearest n ≤ k
asked_near n k a h = go (ltb k home) refl (ltb 20544 n) refl (ltb 4160 n) refl
  where
    go : (s : Bool) → ltb k home ≡ s → (t : Bool) → ltb 20544 n ≡ t → (u : Bool) → ltb 4160 n ≡ u → pick t 289 (pick u 290 home) ≤ k
    go s o true p u q = a
    go false o false p u q = omega (arith, ltb-false k home o, (nearest_in n).1, most u)
      where
        most : (u : Bool) → pick u 290 home ≤ home
        most true = omega arith
        most false = omega arith
    go true o false p true q = omega (arith, first_doubles k (omega arith) (ltb-true k home o), ltb-false 20544 n p)
    go true o false p false q = absurd (omega (arith, first_doubles k (omega arith) (ltb-true k home o), ltb-false 4160 n q))

-- a key of a file with n blocks: a pointer block's over data, or one from the nearest on
abbrev pub Among : ℕ → ℕ → Type 0
Among n k = ((low n ≤ k) × (k < 289)) ⊎ ((nearest n ≤ k) × (k ≤ home + n))

pub asked_closed : (n k : ℕ) → first k < n → Among n k
asked_closed n k h = go (ltb k 289) refl
  where
    go : (t : Bool) → ltb k 289 ≡ t → Among n k
    go true q = inl (asked_low k n h, ltb-true k 289 q)
    go false q = inr (asked_near n k (ltb-false k 289 q) h, asked_high k n h)

module _ (n : ℕ) (short : n ≤ reach) (P : ℕ → Bool) (is : (k : ℕ) → P k ≡ has_key n k) where
  has_near : (k : ℕ) → nearest n ≤ k → k ≤ home + n → P k ≡ true
  has_near k a b = is k ∙ or_of (eqb k home) _ (λ q. lt-ltb (first k) n (at (eqb-false k home q) (ltb home k) refl))
    where
      at : k ≢ home → (t : Bool) → ltb home k ≡ t → first k < n
      at m true z = let l = ltb-true home k z in omega (arith, first_data k l)
      at m false z = near_asked n k a (omega (arith, m, ltb-false home k z))

  has_pointer : (k : ℕ) → low n ≤ k → k < 289 → P k ≡ true
  has_pointer k a b = is k ∙ or_of (eqb k home) _ (λ q. lt-ltb (first k) n (closed_ptr n k a b))

  has_only : (k : ℕ) → P k ≡ true → Among n k
  has_only k h = go (eqb k home) refl (sym (is k) ∙ h)
    where
      go : (t : Bool) → eqb k home ≡ t → (t || ltb (first k) n) ≡ true → Among n k
      go true q h = let z = eqb-true k home q in inr (omega (arith, z, (nearest_in n).1), omega arith)
      go false q h = asked_closed n k (ltb-true (first k) n h)

  has_not : (k : ℕ) → (k < low n) ⊎ (((289 ≤ k) × (k < nearest n)) ⊎ (home + n < k)) → P k ≡ false
  has_not k s = never _ (λ q. no s (has_only k q))
    where
      no : (k < low n) ⊎ (((289 ≤ k) × (k < nearest n)) ⊎ (home + n < k)) → Among n k → ⊥
      no (inl a) (inl b) = omega (arith, a, b.0)
      no (inl a) (inr b) = at (low_two n)
        where
          at : (low n ≤ 288) ⊎ ((low n ≡ home) × (n ≤ 64)) → ⊥
          at (inl l) = omega (arith, a, b.0, l, (nearest_in n).0)
          at (inr l) = omega (arith, a, b.0, l.0, (nearest_is n).1.1 (omega (arith, l.1)))
      no (inr (inl a)) (inl b) = omega (arith, a.0, b.1)
      no (inr (inl a)) (inr b) = omega (arith, a.1, b.0)
      no (inr (inr a)) (inl b) = omega (arith, a, b.1)
      no (inr (inr a)) (inr b) = omega (arith, a, b.1)

  pub next_key_is : (k : ℕ) → P k ≡ true → Next P k (next_key n k)
  next_key_is k h = go (eqb k 288) refl (ltb k (home + n)) refl
    where
      go : (t : Bool) → eqb k 288 ≡ t → (u : Bool) → ltb k (home + n) ≡ u → Next P k (pick t (nearest n) (pick u (suc k) 0))
      go true q u z = let e = eqb-true k 288 q in
          record {
            hit = λ _. (has_near (nearest n) (omega arith) (omega (arith, (nearest_in n).1)), omega (arith, e, (nearest_in n).0));
            none = λ i a m. has_not i (inr (inl (omega (arith, a, e), m (λ z. omega (arith, z, (nearest_in n).0)))));
          }
      go false q true z = record { hit = λ _. (up (has_only k h), omega arith); none = λ i a m. absurd (omega (arith, m (λ z. omega arith))) }
        where
          up : Among n k → P (suc k) ≡ true
          up (inl x) = has_pointer (suc k) (omega (arith, x.0)) (omega (arith, x.1, eqb-false k 288 q))
          up (inr x) = has_near (suc k) (omega (arith, x.0)) (omega (arith, ltb-true k (home + n) z))
      go false q false z = record { hit = λ e. absurd (e refl); none = λ i a m. has_not i (inr (inr (omega (arith, ltb-false k (home + n) z)))) }

  pub prev_key_is : (k : ℕ) → P k ≡ true → Prev P k (prev_key n k)
  prev_key_is k h = go (eqb k (low n)) refl (eqb k (nearest n)) refl
    where
      go : (t : Bool) → eqb k (low n) ≡ t → (u : Bool) → eqb k (nearest n) ≡ u → Prev P k (pick t 0 (pick u 288 (k - 1)))
      go true q u z = let e = eqb-true k (low n) q in record { hit = λ e. absurd (e refl); none = λ i a l m. has_not i (inl (omega arith)) }
      go false q true z = at (low_two n)
        where
          e : k ≡ nearest n
          e = eqb-true k (nearest n) z

          at : (low n ≤ 288) ⊎ ((low n ≡ home) × (n ≤ 64)) → Prev P k 288
          at (inl l) = record { hit = λ _. (has_pointer 288 l (omega arith), omega (arith, e, (nearest_in n).0)); none = λ i a b m. has_not i (inr (inl (omega (arith, m (λ z. omega arith)), omega (arith, e, b)))) }
          at (inr l) = absurd (eqb-false k (low n) q (e ∙ (nearest_is n).1.1 (omega (arith, l.1)) ∙ sym l.0))
      go false q false z = record { hit = λ _. (down (has_only k h), pos (has_only k h)); none = λ i a l m. absurd (near (has_only k h) i l m) }
        where
          pos : Among n k → k - 1 < k
          pos (inl x) = omega (arith, x.0, low_pos n short)
          pos (inr x) = omega (arith, x.0, (nearest_in n).0)

          down : Among n k → P (k - 1) ≡ true
          down (inl x) = has_pointer (k - 1) (omega (arith, x.0, eqb-false k (low n) q)) (omega (arith, x.1))
          down (inr x) = has_near (k - 1) (omega (arith, x.0, eqb-false k (nearest n) z)) (omega (arith, x.1))

          near : Among n k → (i : ℕ) → i < k → (k - 1 ≢ 0 → k - 1 < i) → ⊥
          near (inl x) i l m = omega (arith, m (λ y. omega (arith, x.0, low_pos n short, eqb-false k (low n) q)))
          near (inr x) i l m = omega (arith, m (λ y. omega (arith, x.0, (nearest_in n).0)))

  pub first_key : Next P 0 (low n)
  first_key = record { hit = λ _. (at (low_two n), low_pos n short); none = λ i a m. has_not i (inl (m (λ z. omega (arith, low_pos n short)))) }
    where
      at : (low n ≤ 288) ⊎ ((low n ≡ home) × (n ≤ 64)) → P (low n) ≡ true
      at (inl l) = has_pointer (low n) (omega arith) (omega arith)
      at (inr l) = ap P l.0 ∙ has_near home (nearest_in n).1 (omega arith)

  pub count_keys : count (292 + n) P ≡ size_of n
  count_keys = at (low_two n)
    where
      -- from the nearest on all are there
      upper : (c : ℕ) → c ≡ 292 + n - nearest n → count c (λ i. P (nearest n + i)) ≡ c
      upper c e = count_all c (λ i. P (nearest n + i)) (λ i m. has_near (nearest n + i) (omega arith) (omega (arith, e, m, (nearest_in n).1)))

      tops : (a d c : ℕ) → a ≡ 289 - low n → d ≡ nearest n - 289 → c ≡ 292 + n - nearest n → low n ≤ 288 → count (292 + n) P ≡ a + c
      tops a d c ea ed ec l =
          let z : low n + a + d ≡ nearest n = omega (arith, ea, ed, (nearest_in n).0) in
          ap (λ (x : ℕ). count x P) (let y : 292 + n ≡ low n + a + d + c = omega (arith, z, ec, (nearest_in n).1) in y)
          ∙ omega (
            arith,
            count_split P (low n + a + d) c,
            count_split P (low n + a) d,
            count_split P (low n) a,
            count_nil (low n) P (λ i m. has_not i (inl m)),
            count_all a (λ i. P (low n + i)) (λ i m. has_pointer (low n + i) (omega arith) (omega (arith, ea, m))),
            count_nil d (λ i. P (low n + a + i)) (λ i m. has_not (low n + a + i) (inr (inl (omega (arith, ea, l), omega (arith, z, m))))),
            ap (λ (x : ℕ). count c (λ i. P (x + i))) z ∙ upper c ec,
          )

      at : (low n ≤ 288) ⊎ ((low n ≡ home) × (n ≤ 64)) → count (292 + n) P ≡ size_of n
      at (inl l) = tops (289 - low n) (nearest n - 289) (292 + n - nearest n) refl refl refl l ∙ omega (arith, (nearest_in n).1)
      at (inr l) =
          let q = (nearest_is n).1.1 (omega (arith, l.1)) in
          ap (λ (x : ℕ). count x P) (let z : 292 + n ≡ nearest n + suc n = omega (arith, q) in z)
          ∙ omega (
            arith,
            l.0,
            q,
            count_split P (nearest n) (suc n),
            count_nil (nearest n) P (λ i m. has_not i (inl (omega (arith, l.0, q, m)))),
            upper (suc n) (omega (arith, q)),
          )

-- ---- a file

-- what it has and how many blocks that are, where every key that it asks for is present
module _ (π : Partition) (v : View) (f : ℕ) (full : (k : ℕ) → first k < len v f → present π v f k ≡ true) where
  pub present_full : (k : ℕ) → present π v f k ≡ has_key (len v f) k
  present_full k = go (eqb k home) refl
    where
      go : (t : Bool) → eqb k home ≡ t → present π v f k ≡ (t || ltb (first k) (len v f))
      go true q = ap (present π v f) (eqb-true k home q) ∙ present_home π v f
      go false q = iff_eq _ _ (λ p. lt-ltb _ _ (here_of π v f k (eqb-false k home q) p).asked) (λ l. full k (ltb-true _ _ l))

  module _ (short : len v f ≤ reach) where
    pub least_full : least π v f ≡ low (len v f)
    least_full = next_one (present π v f) 0 _ _ (least_is π v f short) (first_key (len v f) short (present π v f) present_full)

    pub size_full : size π v f ≡ size_of (len v f)
    size_full = size_is π v f (292 + len v f) (omega arith) ∙ count_keys (len v f) short (present π v f) present_full

-- the same of a file that is well formed, and its link order
module _ (π : Partition) (v : View) (f : ℕ) (wf : well_formed π v f ≡ true) where
  short : len v f ≤ reach
  short = (wf_of π v f wf).short

  pub present_closed : (k : ℕ) → present π v f k ≡ has_key (len v f) k
  present_closed = present_full π v f (wf_of π v f wf).full

  pub least_closed : least π v f ≡ low (len v f)
  least_closed = least_full π v f (wf_of π v f wf).full short

  pub size_closed : size π v f ≡ size_of (len v f)
  size_closed = size_full π v f (wf_of π v f wf).full short

  pub above_closed : (k : ℕ) → present π v f k ≡ true → above π v f k ≡ next_key (len v f) k
  above_closed k h = next_one (present π v f) k _ _ (above_next π v f k) (next_key_is (len v f) short (present π v f) present_closed k h)

  pub below_closed : (k : ℕ) → present π v f k ≡ true → below π v f k ≡ prev_key (len v f) k
  below_closed k h = prev_one (present π v f) k _ _ (below_prev π v f k) (prev_key_is (len v f) short (present π v f) present_closed k h)
