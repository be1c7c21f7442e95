-- The walk along a file's links from one present key to the next, and the unused entries of a pointer block. Assumes nothing.
use mathlib.Core.Path.{◌≡◌, refl, sym, ap, ap₂, ◌∙◌}
use mathlib.Core.Logic.{◌≢◌}
use mathlib.Core.List.{List}
use mathlib.Core.Bool.{Bool, true, false, true≢false, ◌&&◌, ◌||◌}
use Prim.Native.Nat.{ℕ, suc, ◌+◌, ◌-◌, ◌/◌, ◌%◌, ◌≤◌, ◌<◌}
use native.Mathlib.Omega.{arith}
use lib.Dec.{leb, ltb, eqb}
use borrow.Author.Tests.{lt-ltb, le-ltb, ltb-true, ltb-false, eqb-true, eqb-false, le-leb, lt-leb}
use Rattle.base.specs.Tests.{pick, both, every, all}
use Rattle.drive.specs.Address.{pda}
use Rattle.image.specs.View.{View, pair}
use Rattle.image.specs.Image.{view}
use Rattle.volume.specs.Words.{next_at, previous_at, slot_at}
use Rattle.volume.specs.Keys.{home, up, slot, child, first, low}
use Rattle.volume.proofs.KeyLaws.{low_pos}
use Rattle.volume.specs.Files.{len, spot, present, above, below, least, link, link_test, tail_test, linked}
use Rattle.volume.specs.declared.Partition.{Partition}
use Rattle.volume.proofs.Index.{span_at, span_of, present_low, present_high, spot_home}
use Rattle.volume.proofs.Order.{Next, prev_one, least_is, least_present, above_below, above_next, below_prev}
use Rattle.volume.specs.Closed.{stays, nearest, next_key, entries_of}
use Rattle.volume.proofs.Closed.{up_stays, nearest_in, entry_asked}
use Rattle.volume.proofs.Steps.{every_no}
use Rattle.inspect.specs.Parts.{Opened}
use Rattle.inspect.proofs.Laws.{opened_few, opened_read, read_is, read_bits}
use Rattle.links.proofs.Laws.{key_pos, first_is, next_is, link_nil, link_is}
use Rattle.base.specs.Laws.{never, both_left}

-- ---- the unused entries of a pointer block

-- entry i of pointer block k, which is block q, is asked for by n blocks, or nil
abbrev pub Tail : View → ℕ → ℕ → ℕ → ℕ → Bool
Tail v n k q i = ltb (first (child k (slot_at i))) n || eqb (pair v q (slot_at i)) 0

-- of the m that are asked for each is good, and beyond them only nil
module _ (v : View) (n k q : ℕ) {m : ℕ} (l : k < home) (e : m ≡ entries_of n k) (few : m ≤ 128) where
  pub tail_asked : (i : ℕ) → i < m → Tail v n k q i ≡ true
  tail_asked i h = rw (entry_asked n k i l (omega arith) ∙ lt-ltb i (entries_of n k) (omega (arith, e)))

  pub tail_rest : (i : ℕ) → m ≤ i → i < 128 → eqb (pair v q (slot_at i)) 0 ≡ Tail v n k q i
  tail_rest i h b = rw (entry_asked n k i l b ∙ le-ltb i (entries_of n k) (omega (arith, e)))

-- ---- one key

abbrev pub links : View → ℕ → ℕ → ℕ → Bool
links v b next previous = both (eqb (pair v b next_at) next) (eqb (pair v b previous_at) previous)

module _ (π : Partition) (v : View) (f k : ℕ) where
  -- a pointer block's unused entries are nil
  abbrev pub tails : Bool
  tails = leb home k || all 128 (tail_test π v f k)

  pub tails_none : home ≤ k → tails ≡ true
  tails_none h = rw (le-leb home k h)

  pub tails_are : {n q : ℕ} {r : Bool} → k < home → n ≡ len v f → q ≡ spot π v f k → r ≡ all 128 (Tail v n k q) → tails ≡ r
  tails_are l h j e = rw (lt-leb home k l) (sym (e ∙ ap₂ (λ (x y : ℕ). all 128 (Tail v x k y)) h j))

  test_absent : present π v f k ≡ false → link_test π v f k ≡ true
  test_absent h = rw h

  test_tail : present π v f k ≡ true → tails ≡ false → link_test π v f k ≡ false
  test_tail p h = rw p (every_no _ 2 h)

  test_links : {r : Bool} {b x y : ℕ} → present π v f k ≡ true → tails ≡ true → b ≡ spot π v f k
      → x ≡ link π v f (above π v f k) → y ≡ link π v f (below π v f k) → r ≡ links v b x y → r ≡ link_test π v f k
  unfolding every both
  test_links {r} {b} {x} {y} p t hb hx hy hr = rw (p, t, ← hb, ← hx, ← hy) (hr ∙ go (eqb (pair v b next_at) x) (eqb (pair v b previous_at) y))
    where
      go : (a c : Bool) → both a c ≡ (a && (c && true))
      go true true = refl
      go true false = refl
      go false c = refl

-- ---- the walk

-- block q names key k, where k is a data block's
abbrev pub Held : Partition → View → ℕ → ℕ → ℕ → Type 0
Held π v f q k = 291 < k → q ≡ spot π v f (up k)

-- behind a data block the next key is the next number
behind_data : (n k : ℕ) {j : ℕ} → j ≡ next_key n k → 292 < j → j ≡ suc k
behind_data n k {j} h l = go (eqb k 288) (ltb k (home + n)) h
  where
    go : (t u : Bool) → j ≡ pick t (nearest n) (pick u (suc k) 0) → j ≡ suc k
    go true u e = absurd (omega (arith, e, l, (nearest_in n).1))
    go false true e = e
    go false false e = absurd (omega (arith, e, l))

-- so the block that names k names it too, where that stays
pub held_on : (π : Partition) (v : View) (f n k : ℕ) {q j : ℕ} → Held π v f q k → j ≡ next_key n k → stays j ≡ true → q ≡ spot π v f (up j)
held_on π v f n k {q} {j} g h s =
    let u = up_stays j s in
    let z = behind_data n k h u.0 in
    let y : k ≡ j - 1 = omega (arith, z) in
    g (omega (arith, z, u.0)) ∙ ap (λ (x : ℕ). spot π v f (up x)) y ∙ ap (spot π v f) u.1

-- and what is read there is the block
pub read_on : {π : Partition} {l : List ℕ} {f q c : ℕ} (o : Opened π l f) (j : ℕ) → present π (view l) f j ≡ true → stays j ≡ true → q ≡ spot π (view l) f (up j)
    → c ≡ pair (view l) q (slot j) / 256 % 2097152 → (c ≡ spot π (view l) f j) × (c ≤ π.e)
read_on o j p s h e = let r = opened_read o in read_is r _ j p (e ∙ read_bits r j p (λ z. omega (arith, z, (up_stays j s).0)) h)

-- each key before k has its links; k is present, b is its block, and the addresses of b and of the block before it are known
pub record Linking (π : Partition) (l : List ℕ) (f k before b own : ℕ) : Type 0 where
  pub passed : (i : ℕ) → 0 < i → i < k → link_test π (view l) f i ≡ true
  pub there : present π (view l) f k ≡ true
  pub back : before ≡ link π (view l) f (below π (view l) f k)
  pub here : b ≡ spot π (view l) f k
  pub within : b ≤ π.e
  pub address : own ≡ pda π.drive b

-- a turn of the walk: k's tail is good, and j is the next present key, or 0
pub record Turn (π : Partition) (l : List ℕ) (f k before b own j : ℕ) : Type 0 where
  pub at : Linking π l f k before b own
  pub tailed : tails π (view l) f k ≡ true
  pub next : j ≡ above π (view l) f k

module _ {π : Partition} {l : List ℕ} {f : ℕ} (o : Opened π l f) where
  abbrev P : ℕ → Bool
  P = present π (view l) f

  fails : (k : ℕ) → P k ≡ true → link_test π (view l) f k ≡ false → false ≡ linked π (view l) f
  unfolding linked
  fails k p h = sym (never _ (λ q. true≢false (sym (span_at (len (view l) f) (link_test π (view l) f) q k (present_low π (view l) f k p) (present_high π (view l) f k p)) ∙ h)))

  pub link_starts : {k b own : ℕ} → k ≡ least π (view l) f → (b ≡ spot π (view l) f k) × (b ≤ π.e) → own ≡ pda π.drive b → Linking π l f k 0 b own
  link_starts {k} hk hb q = record {
    passed = λ i a m. test_absent π (view l) f i (none i a m);
    there = there;
    back = link_nil π (view l) f _ (prev_one P k _ 0 (below_prev π (view l) f k) (record { hit = λ n. absurd (n refl); none = λ i a m _. none i a m }));
    here = hb.0;
    within = hb.1;
    address = q;
  }
    where
      there : P k ≡ true
      there = rw hk (least_present π (view l) f o.formed).1

      none : (i : ℕ) → 0 < i → i < k → P i ≡ false
      none i a m = (least_is π (view l) f (opened_few o)).none i a (λ _. omega (arith, hk))

  pub link_tail : {k before b own : ℕ} → Linking π l f k before b own → tails π (view l) f k ≡ false → false ≡ linked π (view l) f
  link_tail {k} g h = fails k g.there (test_tail π (view l) f k g.there h)

  module _ {k before b own j : ℕ} (g : Turn π l f k before b own j) where
    next : Next P k j
    next = rw g.next (above_next π (view l) f k)

    pub next_there : j ≢ 0 → P j ≡ true
    next_there n = (next.hit n).0

    pub next_more : j ≢ 0 → k < j
    next_more n = (next.hit n).1

    -- the keys up to k, and those between k and the next
    upto : link_test π (view l) f k ≡ true → (i : ℕ) → 0 < i → (j ≢ 0 → i < j) → link_test π (view l) f i ≡ true
    upto h i a m = go (ltb i k) refl (eqb i k) refl
      where
        go : (u : Bool) → ltb i k ≡ u → (w : Bool) → eqb i k ≡ w → link_test π (view l) f i ≡ true
        go true z w y = g.at.passed i a (ltb-true i k z)
        go false z true y = rw (eqb-true i k y) h
        go false z false y = test_absent π (view l) f i (next.none i (omega (arith, ltb-false i k z, eqb-false i k y)) m)

    test_is : {r : Bool} {x : ℕ} → x ≡ link π (view l) f j → r ≡ links (view l) b x before → r ≡ link_test π (view l) f k
    test_is q hr = test_links π (view l) f k g.at.there g.tailed g.at.here (q ∙ ap (link π (view l) f) g.next) g.at.back hr

    pub link_end : {r : Bool} → j ≡ 0 → r ≡ links (view l) b 0 before → r ≡ linked π (view l) f
    unfolding linked
    link_end {r} z hr = go r refl
      where
        is : r ≡ link_test π (view l) f k
        is = test_is (link_nil π (view l) f j z) hr

        go : (u : Bool) → r ≡ u → r ≡ linked π (view l) f
        go false q = q ∙ fails k g.at.there (sym is ∙ q)
        go true q = q ∙ sym (span_of (len (view l) f) (link_test π (view l) f) (λ i a m. upto (sym is ∙ q) i (omega (arith, low_pos (len (view l) f) (opened_few o))) (λ n. absurd (n z))))

    module _ (n : j ≢ 0) {c : ℕ} (h : (c ≡ spot π (view l) f j) × (c ≤ π.e)) {r : Bool} (hr : r ≡ links (view l) b (pda π.drive c) before) where
      is : r ≡ link_test π (view l) f k
      is = test_is (link_is π (view l) f j n h.0 refl) hr

      pub link_fails : r ≡ false → false ≡ linked π (view l) f
      link_fails e = fails k g.at.there (sym is ∙ e)

      pub link_next : r ≡ true → {y : ℕ} → y ≡ pair (view l) b next_at → Linking π l f j own c y
      link_next e q = record {
        passed = λ i a m. upto (sym is ∙ e) i a (λ _. m);
        there = next_there n;
        back =
            link_is π (view l) f k (λ z. omega (arith, key_pos o k g.at.there)) g.at.here g.at.address
            ∙ ap (link π (view l) f) (sym (ap (below π (view l) f) g.next ∙ above_below π (view l) f o.formed k g.at.there (λ z. n (g.next ∙ z))));
        here = h.0;
        within = h.1;
        address = q ∙ eqb-true _ _ (both_left _ _ (sym hr ∙ e));
      }

  -- a file without data is its FIB alone
  pub link_alone : {r : Bool} {n : ℕ} → n ≡ len (view l) f → n ≡ 0 → r ≡ links (view l) f 0 0 → r ≡ linked π (view l) f
  unfolding low
  link_alone {r} {n} q z hr = link_end turn refl hr
    where
      start : Linking π l f home 0 f (pda π.drive f)
      start = link_starts (first_is o q (rw z)) (sym (spot_home π (view l) f), o.here) refl

      turn : Turn π l f home 0 f (pda π.drive f) 0
      turn = record { at = start; tailed = tails_none π (view l) f home (omega arith); next = next_is o q home start.there (rw z) }
