-- Link order after a write: what above, below and least find. Block r comes behind the old last block, a new pointer block over it before
-- all others, and a new -2 or -3 behind -4; a block that stands beside none of them keeps its neighbours.
use Rattle.std.specs.Prelude.{◌≡◌, ◌≢◌, Bool, true, false, ltb}
use Rattle.std.proofs.Common.{sym, ap, ap₂, ◌∙◌, subst, true≢false, arith, lt-ltb, eq-eqb, ne_eqb}
use Prim.Native.Nat.{ℕ, zero, suc, ◌+◌, ◌-◌, ◌≤◌, ◌<◌}
use Rattle.base.specs.Tests.{pick}
use Rattle.base.specs.Laws.{never}
use Rattle.image.specs.View.{View}
use Rattle.volume.specs.Keys.{home, low, span}
use Rattle.volume.proofs.KeyLaws.{low_pos, span_end, up_most}
use Rattle.volume.specs.Files.{len, present, above, below, least}
use Rattle.volume.specs.declared.Partition.{Partition}
use Rattle.volume.proofs.Index.{present_low, present_high, wf_of}
use Rattle.volume.proofs.Order.{Next, Prev, next_one, prev_one, next_prev, least_present, seek_next, down_prev, seek_first, above_next, below_prev}
use Rattle.volume.specs.Closed.{nearest, next_key, prev_key}
use Rattle.volume.proofs.Closed.{next_key_is, prev_key_is, first_key, least_closed}
use Rattle.volume.specs.Writes.{over, needs, is_new, present', above', below', least'}
use Rattle.growth.specs.Ready.{Behind}
use Rattle.growth.specs.Path.{over_zero, over_up, over_least, over_nearest, over_one, over_pos, needs_few, new_absent, new_at, new_not}
use Rattle.growth.specs.Afterwards.{present_new, present_old, present_not, len_short, range', home_there, present'_closed}

-- the other half of `next_prev`: of the one below, it is the one above
prev_next : (P : ℕ → Bool) (k j : ℕ) → 0 < k → P k ≡ true → j ≢ 0 → Prev P k j → Next P j k
prev_next P k j p h n a = record { hit = λ _. (h, (a.hit n).1); none = λ i l m. a.none i (omega arith) (m (λ z. omega arith)) (λ _. l) }

module _ (π : Partition) (v : View) (f r : ℕ) (ok : Behind π v f r) where
  abbrev P : ℕ → Bool
  P = present' π v f r

  pos' : 0 < low (suc r)
  pos' = low_pos (suc r) (len_short π v f r ok)

  -- what above, below and least find afterwards
  pub above'_is : (k : ℕ) → Next (present' π v f r) k (above' π v f r k)
  unfolding above'
  above'_is k = seek_next P (home + suc r) (λ i p. (range' π v f r ok i p).1) k (home + suc r - k) (omega arith)

  pub below'_is : (k : ℕ) → Prev (present' π v f r) k (below' π v f r k)
  unfolding below'
  below'_is k = down_prev P (low (suc r)) (λ i p. (range' π v f r ok i p).0) k

  pub least'_is : Next (present' π v f r) 0 (least' π v f r)
  unfolding least'
  least'_is = seek_first P (low (suc r)) (home + suc r) pos' (range' π v f r ok) (span (suc r)) (omega (arith, span_end (suc r)))

  pub least'_there : (least' π v f r ≢ 0) × (present' π v f r (least' π v f r) ≡ true)
  least'_there = (ne, (least'_is.hit ne).0)
    where
      ne : least' π v f r ≢ 0
      ne z = true≢false (sym (home_there π v f r) ∙ least'_is.none home (omega arith) (λ n. absurd (n z)))

  -- in plain numbers: those of a file with r + 1 blocks
  pub above'_closed : (k : ℕ) → present' π v f r k ≡ true → above' π v f r k ≡ next_key (suc r) k
  above'_closed k h = next_one P k _ _ (above'_is k) (next_key_is (suc r) (len_short π v f r ok) P (present'_closed π v f r ok) k h)

  pub below'_closed : (k : ℕ) → present' π v f r k ≡ true → below' π v f r k ≡ prev_key (suc r) k
  below'_closed k h = prev_one P k _ _ (below'_is k) (prev_key_is (suc r) (len_short π v f r ok) P (present'_closed π v f r ok) k h)

  pub least'_closed : least' π v f r ≡ low (suc r)
  least'_closed = next_one P 0 _ _ least'_is (first_key (suc r) (len_short π v f r ok) P (present'_closed π v f r ok))

  -- ---- where the new keys stand

  -- block r stands above all others
  pub last_new : (k : ℕ) → present π v f k ≡ true → k < over r 0
  last_new k p = omega (arith, present_high π v f k p, over_zero r, ok.next)

  -- a new pointer block over it stands below all others
  pub first_old : 1 < needs π v f r → (k : ℕ) → present π v f k ≡ true → over r 1 < k
  first_old n k p =
      let ne : k ≢ over r 1 = λ z. true≢false (sym p ∙ ap (present π v f) z ∙ new_absent π v f r ok 1 n) in
      omega (arith, ne, over_least r, (range' π v f r ok k (present_old π v f r k p)).0)

  -- a new -2 or -3 stands behind -4 and before -2 or the FIB
  double_there : 2 < needs π v f r → present' π v f r (over r 2) ≡ true
  double_there n = present_new π v f r (over r 2) (new_at π v f r ok 2 n)

  pub double_high : 289 ≤ over r 2
  double_high = subst (λ (k : ℕ). 289 ≤ k) (sym (over_nearest r ok.far)) (go (ltb 20544 (suc r)) (ltb 4160 (suc r)))
    where
      go : (t u : Bool) → 289 ≤ pick t 289 (pick u 290 home)
      go true u = omega arith
      go false true = omega arith
      go false false = omega arith

  pub double_below : 2 < needs π v f r → below' π v f r (over r 2) ≡ 288
  double_below n =
      below'_closed (over r 2) (double_there n)
      ∙ ap₂ (λ (t u : Bool). pick t 0 (pick u 288 (over r 2 - 1)))
      (ne_eqb (over r 2) (low (suc r)) (λ z. omega (arith, over_one π v f r ok 2 1 (omega arith) (omega arith) (z ∙ sym (over_least r)))))
      (eq-eqb (over r 2) (nearest (suc r)) (over_nearest r ok.far))

  pub double_above : 2 < needs π v f r → above' π v f r (over r 2) ≡ suc (over r 2)
  double_above n =
      above'_closed (over r 2) (double_there n)
      ∙ ap₂ (λ (t u : Bool). pick t (nearest (suc r)) (pick u (suc (over r 2)) 0))
      (ne_eqb (over r 2) 288 (λ z. omega (arith, z, double_high)))
      (lt-ltb (over r 2) (home + suc r) (omega (arith, over_up r 1, up_most (over r 1))))

  -- ---- the neighbours

  end_there : present π v f (home + len v f) ≡ true
  end_there = (wf_of π v f ok.formed).ends

  low_there : (least π v f ≢ 0) × (present π v f (least π v f) ≡ true)
  low_there = least_present π v f ok.formed

  pub least_under : (k : ℕ) → present π v f k ≡ true → least π v f ≤ k
  least_under k p = omega (arith, least_closed π v f ok.formed, present_low π v f k p)

  key_pos : (k : ℕ) → present π v f k ≡ true → 0 < k
  key_pos k p = omega (arith, pos', (range' π v f r ok k (present_old π v f r k p)).0)

  -- a block whose neighbour afterwards is an old one had it before
  above_old : (k : ℕ) → is_new π v f r (above' π v f r k) ≡ false → above' π v f r k ≡ above π v f k
  above_old k o = next_one (present π v f) k _ _ (record {
    hit = λ n. (sym (present_not π v f r _ o) ∙ ((above'_is k).hit n).0, ((above'_is k).hit n).1);
    none = λ i l m. never _ (λ p. true≢false (sym (present_old π v f r i p) ∙ (above'_is k).none i l m));
  }) (above_next π v f k)

  below_old : (k : ℕ) → is_new π v f r (below' π v f r k) ≡ false → below' π v f r k ≡ below π v f k
  below_old k o = prev_one (present π v f) k _ _ (record {
    hit = λ n. (sym (present_not π v f r _ o) ∙ ((below'_is k).hit n).0, ((below'_is k).hit n).1);
    none = λ i z l m. never _ (λ p. true≢false (sym (present_old π v f r i p) ∙ (below'_is k).none i z l m));
  }) (below_prev π v f k)

  -- a new key comes above the old last block and above the block below a new -2 or -3, and below the old first block, where the pointer
  -- block over block r is new, and below the block above a new -2 or -3: the others keep their neighbours
  pub above_kept : (k : ℕ) → present π v f k ≡ true → k ≢ home + len v f → (2 < needs π v f r → k ≢ below' π v f r (over r 2)) → above' π v f r k ≡ above π v f k
  above_kept k p e d = above_old k (new_not π v f r ok _ no)
    where
      a : Next (present' π v f r) k (above' π v f r k)
      a = above'_is k

      no : (i : ℕ) → i < needs π v f r → above' π v f r k ≢ over r i
      no zero l z = true≢false (sym (present_old π v f r _ end_there) ∙ a.none _ (omega (arith, e, present_high π v f k p)) (λ _. omega (arith, z, last_new _ end_there)))
      no (suc zero) l z = omega (arith, z, first_old l k p, (a.hit (λ y. omega (arith, y, z, over_pos π v f r ok 1 (omega arith)))).1)
      no (suc (suc zero)) l z =
          d l (prev_one P (over r 2) k _ (subst (λ (j : ℕ). Prev P j k) z (next_prev P k _ (key_pos k p) (present_old π v f r k p) (λ y. omega (arith, y, z, double_high)) a)) (below'_is (over r 2)))
      no (suc (suc (suc i))) l z = omega (arith, needs_few π v f r)

  pub below_kept : (k : ℕ) → present π v f k ≡ true → (1 < needs π v f r → k ≢ least π v f) → (2 < needs π v f r → k ≢ above' π v f r (over r 2)) → below' π v f r k ≡ below π v f k
  below_kept k p e d = below_old k (new_not π v f r ok _ no)
    where
      a : Prev (present' π v f r) k (below' π v f r k)
      a = below'_is k

      no : (i : ℕ) → i < needs π v f r → below' π v f r k ≢ over r i
      no zero l z = omega (arith, z, last_new k p, (a.hit (λ y. omega (arith, y, z, over_zero r))).1)
      no (suc zero) l z =
          true≢false (sym (present_old π v f r _ low_there.1)
          ∙ a.none _ (key_pos _ low_there.1) (omega (arith, e l, least_under k p)) (λ _. omega (arith, z, first_old l _ low_there.1)))
      no (suc (suc zero)) l z =
          d l (next_one P (over r 2) k _ (subst (λ (j : ℕ). Next P j k) z (prev_next P k _ (key_pos k p) (present_old π v f r k p) (λ y. omega (arith, y, z, double_high)) a)) (above'_is (over r 2)))
      no (suc (suc (suc i))) l z = omega (arith, needs_few π v f r)
