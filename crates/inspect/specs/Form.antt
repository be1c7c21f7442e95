-- The closed form of well formed, for a file without holes: what one pass over the index decides.
use Rattle.std.specs.Prelude.{◌≡◌, refl, ◌≢◌, [], ◌∷◌, Bool, true, false, ◌||◌, leb, ltb}
use Rattle.std.proofs.Common.{sym, ◌∙◌, inl, inr}
use Rattle.std.proofs.Math.Path.{ap, subst}
use Prim.Native.Nat.{ℕ, zero, suc, ◌+◌, ◌-◌, ◌*◌, ◌≤◌, ◌<◌}
use native.Mathlib.Omega.{arith}
use Rattle.std.proofs.Math.Dec.{eqb}
use borrow.Author.Tests.{ltb-true, ltb-false, eqb-true, le-ltb, eq-eqb, le-leb, leb-true}
use Rattle.base.specs.Tests.{both, every, all}
use Rattle.base.specs.Laws.{all_at, all_of, both_left, both_right, both_of, every_at, iff_eq}
use Rattle.drive.specs.Address.{lda_block, is_lda}
use Rattle.drive.proofs.Names.{lda_some}
use Rattle.image.specs.View.{View, pair}
use Rattle.volume.specs.Words.{relative_at, direct_at, indirect_at, double_at, in_use_at, last_address_at, low_number_at, low_address_at}
use Rattle.volume.specs.Keys.{home, reach, number, up, slot, first, low}
use Rattle.volume.proofs.KeyLaws.{key_ind, first_up, first_data, first_doubles, low_pos, asked_low, fib_keys, last_asked, closed_ptr, row_direct, row_ptr, row_double}
use Rattle.volume.specs.Files.{inside, serial, len, spot, present, entry, named, tally, well_formed}
use Rattle.volume.specs.declared.Partition.{Partition}
use Rattle.volume.proofs.Index.{WF, Member, wf_of, of_wf, or_at, or_of, here_of, of_here, present_home, named_of}
use Rattle.volume.proofs.Steps.{every_cons, every_nil}
use Rattle.volume.specs.Closed.{nearest, size_of}
use Rattle.volume.proofs.Closed.{Among, asked_closed, near_asked, nearest_in, first_key, least_closed, size_closed, present_full, least_full, size_full}

-- of the entries from word w of block f on, entry i is one of the first k, or nil
abbrev pub nil_from : View → ℕ → ℕ → ℕ → ℕ → Bool
nil_from v f w k i = ltb i k || eqb (pair v f (w + 2 * i)) 0

-- the FIB's entries that n blocks do not need are nil
unfoldable pub nils_good : View → ℕ → ℕ → Bool
nils_good v f n =
    every (all 64 (nil_from v f (direct_at 0) n)
    ∷ all 32 (nil_from v f (indirect_at 0) (289 - low n))
    ∷ (ltb 4160 n || eqb (pair v f double_at) 0)
    ∷ (ltb 20544 n || eqb (pair v f (double_at + 2)) 0)
    ∷ [])

-- the LDA x is that of a block of s+1..e with the serial `own` and the relative number rel
unfoldable pub names : Partition → View → ℕ → ℕ → ℕ → Bool
names π v own x rel =
    let b = lda_block π.drive x in
    every (is_lda π.drive x b ∷ inside π b ∷ eqb (serial v b) own ∷ eqb (v b relative_at) rel ∷ [])

module _ (π : Partition) (v : View) (f : ℕ) where
  -- pointer block -(4+j) is named well; -2 or -3; block r
  abbrev pub pointer_test : ℕ → Bool
  pointer_test j = named π v f (288 - j)

  abbrev pub double_test : ℕ → Bool
  double_test i = named π v f (290 - i)

  abbrev pub data_test : ℕ → Bool
  data_test r = named π v f (292 + r)

  -- of -2 and -3 those that n blocks need are named well; the pointer blocks over data and the n blocks; all of them
  unfoldable pub doubles_good : ℕ → Bool
  doubles_good n = all (home - nearest n) double_test

  unfoldable pub entries_good : ℕ → Bool
  entries_good n = both (all (289 - low n) pointer_test) (all n data_test)

  unfoldable pub index_good : ℕ → Bool
  index_good n = both (doubles_good n) (entries_good n)

  -- blocks in use, last address, last negative number and its address are those of n blocks
  unfoldable pub numbers_good : ℕ → Bool
  numbers_good n =
      every (eqb (v f in_use_at) (size_of n)
      ∷ is_lda π.drive (pair v f last_address_at) (spot π v f (home + n))
      ∷ eqb (v f low_number_at) (number (low n))
      ∷ is_lda π.drive (pair v f low_address_at) (spot π v f (low n))
      ∷ [])

  -- L is within reach, and the index, its unused entries and the numbers are those of L + 1 blocks
  unfoldable pub form_good : Bool
  form_good = let n = len v f in every (leb n reach ∷ index_good n ∷ nils_good v f n ∷ numbers_good n ∷ [])

-- ---- the tests, one by one

module _ (π : Partition) (v : View) (f n : ℕ) where
  index_ptr : index_good π v f n ≡ true → (k : ℕ) → low n ≤ k → k < 289 → named π v f k ≡ true
  unfolding index_good entries_good
  index_ptr h k a b =
      let z : 288 - (288 - k) ≡ k = omega arith in
      subst (λ (x : ℕ). named π v f x ≡ true) z (all_at _ _ (both_left _ _ (both_right _ _ h)) (288 - k) (omega arith))

  pub double_named : doubles_good π v f n ≡ true → (k : ℕ) → nearest n ≤ k → k < home → 288 < k → named π v f k ≡ true
  unfolding doubles_good
  double_named h k a b c =
      let z : 290 - (290 - k) ≡ k = omega arith in
      subst (λ (x : ℕ). named π v f x ≡ true) z (all_at _ _ h (290 - k) (omega arith))

  index_data : index_good π v f n ≡ true → (k : ℕ) → home < k → k ≤ home + n → named π v f k ≡ true
  unfolding index_good entries_good
  index_data h k a b =
      let z : 292 + (k - 292) ≡ k = omega arith in
      subst (λ (x : ℕ). named π v f x ≡ true) z (all_at _ _ (both_right _ _ (both_right _ _ h)) (k - 292) (omega arith))

  index_doubles : index_good π v f n ≡ true → doubles_good π v f n ≡ true
  unfolding index_good
  index_doubles h = both_left _ _ h

-- an entry of the FIB that n blocks do not ask for is nil
module _ (v : View) (f n : ℕ) (h : nils_good v f n ≡ true) where
  nil_direct : (r : ℕ) → r < 64 → n ≤ r → pair v f (60 + 2 * r) ≡ 0
  unfolding nils_good
  nil_direct r l m = eqb-true _ _ (or_at (ltb r n) _ (all_at 64 _ (every_at _ h 0) r l) (le-ltb r n m))

  nil_pointer : (j : ℕ) → j < 32 → 289 - low n ≤ j → pair v f (188 + 2 * j) ≡ 0
  unfolding nils_good
  nil_pointer j l m = eqb-true _ _ (or_at (ltb j (289 - low n)) _ (all_at 32 _ (every_at _ h 1) j l) (le-ltb j (289 - low n) m))

  nil_double : (i : ℕ) → i < 2 → n ≤ 4160 + 16384 * i → pair v f (252 + 2 * i) ≡ 0
  unfolding nils_good
  nil_double zero l m = eqb-true _ _ (or_at (ltb 4160 n) _ (every_at _ h 2) (le-ltb 4160 n m))
  nil_double (suc zero) l m = eqb-true _ _ (or_at (ltb 20544 n) _ (every_at _ h 3) (le-ltb 20544 n m))
  nil_double (suc (suc i)) l m = absurd (omega arith)

  nil_entry : (k : ℕ) → k ≢ home → up k ≡ home → n ≤ first k → pair v f (slot k) ≡ 0
  nil_entry k ne q l = go (ltb home k) refl (ltb 288 k) refl
    where
      r : (257 ≤ k) × (k < 356)
      r = fib_keys k ne q

      go : (t : Bool) → ltb home k ≡ t → (u : Bool) → ltb 288 k ≡ u → pair v f (slot k) ≡ 0
      go true a u b =
          let m = ltb-true home k a in
          let z : 292 + (k - 292) ≡ k = omega arith in
          let w = (row_direct (k - 292) (omega (arith, r.1))).1 in
          ap (pair v f) (ap slot (sym z) ∙ w) ∙ nil_direct (k - 292) (omega (arith, r.1)) (omega (arith, first_data k m))
      go false a true b =
          let m = ltb-true 288 k b in
          let o : k < 291 = omega (arith, ltb-false home k a, ne) in
          let z : 290 - (290 - k) ≡ k = omega arith in
          ap (pair v f) (ap slot (sym z) ∙ (row_double (290 - k) (omega arith)).1) ∙ nil_double (290 - k) (omega arith) (omega (arith, l, first_doubles k m o))
      go false a false b =
          let m = ltb-false 288 k b in
          let z : 288 - (288 - k) ≡ k = omega arith in
          ap (pair v f) (ap slot (sym z) ∙ (row_ptr (288 - k) (omega (arith, r.0))).1) ∙ nil_pointer (288 - k) (omega (arith, r.0)) (far (ltb k (low n)) refl)
        where
          far : (t : Bool) → ltb k (low n) ≡ t → 289 - low n ≤ 288 - k
          far true c = omega (arith, ltb-true k (low n) c, ltb-false 288 k b)
          far false c = absurd (omega (arith, closed_ptr n k (ltb-false k (low n) c) (omega (arith, ltb-false 288 k b))))

-- ---- well formed is these tests

module _ (π : Partition) (v : View) (f : ℕ) where
  -- what is named well: its address, its header, and that it has an entry
  named_lda : (k : ℕ) → named π v f k ≡ true → is_lda π.drive (entry π v f k) (spot π v f k) ≡ true
  unfolding named
  named_lda k h = every_at _ h 0

  pub named_member : (k : ℕ) → named π v f k ≡ true → Member π v f (spot π v f k) k
  unfolding named
  named_member k h = record { ins = every_at _ h 1; ser = eqb-true _ _ (every_at _ h 2); num = eqb-true _ _ (every_at _ h 3) }

  named_said : (k : ℕ) → named π v f k ≡ true → entry π v f k ≢ 0
  named_said k h z = omega (arith, lda_some π.drive (entry π v f k) (spot π v f k) (named_lda k h))

  module _ (short : len v f ≤ reach) (good : index_good π v f (len v f) ≡ true) where
    pub asked_named : (k : ℕ) → k ≢ home → first k < len v f → named π v f k ≡ true
    asked_named k n l = at (asked_closed (len v f) k l)
      where
        at : Among (len v f) k → named π v f k ≡ true
        at (inl x) = index_ptr π v f (len v f) good k x.0 x.1
        at (inr x) = go (ltb home k) refl
          where
            go : (t : Bool) → ltb home k ≡ t → named π v f k ≡ true
            go true q = index_data π v f (len v f) good k (ltb-true home k q) x.1
            go false q = double_named π v f (len v f) (index_doubles π v f (len v f) good) k x.0 (omega (arith, n, ltb-false home k q)) (omega (arith, x.0, (nearest_in (len v f)).0))

    -- every key that L asks for is present, and no other but the FIB's
    asked_present : (k : ℕ) → first k < len v f → present π v f k ≡ true
    asked_present = key_ind (λ k. first k < len v f → present π v f k ≡ true) (λ l. present_home π v f)
        (λ k n ih l. of_here π v f k n (record { asked = l; held = ih (omega (arith, first_up k n)); said = named_said k (asked_named k n l) }))

    pub low_here : present π v f (low (len v f)) ≡ true
    low_here = ((first_key (len v f) short (present π v f) (present_full π v f asked_present)).hit (λ z. omega (arith, low_pos (len v f) short))).0

    pub ends : present π v f (home + len v f) ≡ true
    ends = go (ltb 0 (len v f)) refl
      where
        go : (t : Bool) → ltb 0 (len v f) ≡ t → present π v f (home + len v f) ≡ true
        go true q = asked_present (home + len v f) (last_asked (len v f) (ltb-true _ _ q))
        go false q = ap (present π v f) (let z : home + len v f ≡ home = omega (arith, ltb-false 0 (len v f) q) in z) ∙ present_home π v f

    numbers_tally : numbers_good π v f (len v f) ≡ true → tally π v f ≡ true
    unfolding numbers_good tally
    numbers_tally h =
        every_cons _ (ap (eqb (v f in_use_at)) (size_full π v f asked_present short) ∙ every_at _ h 0)
        (every_cons _ (ap (λ (k : ℕ). eqb (v f low_number_at) (number k)) (least_full π v f asked_present short) ∙ every_at _ h 2)
        (every_cons _ (ap (λ (k : ℕ). is_lda π.drive (pair v f low_address_at) (spot π v f k)) (least_full π v f asked_present short) ∙ every_at _ h 3) every_nil))

    numbers_last : numbers_good π v f (len v f) ≡ true → is_lda π.drive (pair v f last_address_at) (spot π v f (home + len v f)) ≡ true
    unfolding numbers_good
    numbers_last h = every_at _ h 1

  form_formed : form_good π v f ≡ true → well_formed π v f ≡ true
  unfolding form_good
  form_formed h = of_wf π v f (record {
    short = short;
    good = λ k n p. named_lda k (named_here k n p);
    mine = λ k n p. named_member k (named_here k n p);
    nil = nil_entry v f (len v f) (every_at _ h 2);
    ends = ends short good;
    last = numbers_last short good (every_at _ h 3);
    full = asked_present short good;
    tallied = numbers_tally short good (every_at _ h 3);
  })
    where
      short : len v f ≤ reach
      short = leb-true _ _ (every_at _ h 0)

      good : index_good π v f (len v f) ≡ true
      good = every_at _ h 1

      named_here : (k : ℕ) → k ≢ home → present π v f k ≡ true → named π v f k ≡ true
      named_here k n p = asked_named short good k n (here_of π v f k n p).asked

  module _ (h : well_formed π v f ≡ true) where
    w : WF π v f
    w = wf_of π v f h

    formed_doubles : doubles_good π v f (len v f) ≡ true
    unfolding doubles_good
    formed_doubles = all_of _ _ (λ i l. named_of π v f w (290 - i) (λ z. omega (arith, z)) (w.full (290 - i) (near_asked (len v f) (290 - i) (omega (arith, l, (nearest_in (len v f)).0)) (omega arith))))

    pub formed_index : index_good π v f (len v f) ≡ true
    unfolding index_good entries_good
    formed_index =
        both_of formed_doubles (both_of
        (all_of _ _ (λ j l. named_of π v f w (288 - j) (λ z. omega arith) (w.full (288 - j) (closed_ptr (len v f) (288 - j) (omega arith) (omega arith)))))
        (all_of _ _ (λ r l. named_of π v f w (292 + r) (λ z. omega arith) (w.full (292 + r) (omega (arith, first_data (292 + r) (omega arith)))))))

    spare_pointer : (j : ℕ) → 289 - low (len v f) ≤ j → j < 32 → len v f ≤ first (288 - j)
    spare_pointer j a b = go (ltb (first (288 - j)) (len v f)) refl
      where
        go : (t : Bool) → ltb (first (288 - j)) (len v f) ≡ t → len v f ≤ first (288 - j)
        go true q = absurd (omega (arith, asked_low (288 - j) (len v f) (ltb-true _ _ q)))
        go false q = ltb-false _ _ q

    formed_nils : nils_good v f (len v f) ≡ true
    unfolding nils_good
    formed_nils =
        every_cons _ (all_of 64 _ (λ r l. or_of (ltb r (len v f)) _ (λ q. eq-eqb _ _ (direct r l (ltb-false r _ q)))))
        (every_cons _ (all_of 32 _ (λ j l. or_of (ltb j (289 - low (len v f))) _ (λ q. eq-eqb _ _ (pointer j l (ltb-false j _ q)))))
        (every_cons _ (or_of (ltb 4160 (len v f)) _ (λ q. eq-eqb _ _ (double 0 (omega arith) (ltb-false 4160 _ q)))) (every_cons _ (or_of (ltb 20544 (len v f)) _ (λ q. eq-eqb _ _ (double 1 (omega arith) (ltb-false 20544 _ q)))) every_nil)))
      where
        direct : (r : ℕ) → r < 64 → len v f ≤ r → pair v f (60 + 2 * r) ≡ 0
        direct r l m =
            let x = row_direct r l in
            ap (pair v f) (sym x.1) ∙ w.nil (292 + r) (λ z. omega arith) x.0 (omega (arith, first_data (292 + r) (omega arith)))

        pointer : (j : ℕ) → j < 32 → 289 - low (len v f) ≤ j → pair v f (188 + 2 * j) ≡ 0
        pointer j l m =
            let x = row_ptr j l in
            ap (pair v f) (sym x.1) ∙ w.nil (288 - j) (λ z. omega arith) x.0 (spare_pointer j m l)

        double : (i : ℕ) → i < 2 → len v f ≤ 4160 + 16384 * i → pair v f (252 + 2 * i) ≡ 0
        double i l m =
            let x = row_double i l in
            ap (pair v f) (sym x.1) ∙ w.nil (290 - i) (λ z. omega arith) x.0 (omega (arith, m, first_doubles (290 - i) (omega arith) (omega arith)))

    tally_numbers : tally π v f ≡ true → numbers_good π v f (len v f) ≡ true
    unfolding numbers_good tally
    tally_numbers t =
        every_cons _ (ap (eqb (v f in_use_at)) (sym (size_closed π v f h)) ∙ every_at _ t 0)
        (every_cons _ w.last
        (every_cons _ (ap (λ (k : ℕ). eqb (v f low_number_at) (number k)) (sym (least_closed π v f h)) ∙ every_at _ t 1)
        (every_cons _ (ap (λ (k : ℕ). is_lda π.drive (pair v f low_address_at) (spot π v f k)) (sym (least_closed π v f h)) ∙ every_at _ t 2) every_nil)))

    formed_form : form_good π v f ≡ true
    unfolding form_good
    formed_form = every_cons _ (le-leb _ _ w.short) (every_cons _ formed_index (every_cons _ formed_nils (every_cons _ (tally_numbers w.tallied) every_nil)))

  pub form_closed : well_formed π v f ≡ form_good π v f
  form_closed = iff_eq _ _ formed_form form_formed
