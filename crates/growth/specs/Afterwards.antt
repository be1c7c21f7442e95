-- The file after a write, key by key: L, what is present and where; each key has its own block, none that of the free chain or the PIB.
use Rattle.std.specs.Prelude.{◌≡◌, refl, ◌⊎◌, ◌≢◌, Bool, true, false, ◌||◌, ℕ, suc, ◌+◌, ◌≤◌, ◌<◌, ltb, eqb}
use Rattle.std.proofs.Common.{sym, ◌∙◌, inl, inr, true≢false, arith, ltb-true, ltb-false, eqb-true, lt-ltb}
use Rattle.std.proofs.Math.Path.{ap}
use Rattle.std.proofs.lemmas.Bool.{eqb-false}
use Rattle.base.specs.Tests.{pick}
use Rattle.base.specs.Laws.{never, iff_eq}
use Rattle.image.specs.View.{View}
use Rattle.volume.specs.Keys.{home, reach, first, low}
use Rattle.volume.proofs.KeyLaws.{asked_low, asked_high, low_home, first_data, first_pointer, first_doubles}
use Rattle.volume.specs.Files.{inside, len, spot, present, key, owned}
use Rattle.volume.specs.declared.Partition.{Partition}
use Rattle.volume.proofs.Index.{here_of, spot_home, present_home, wf_of, member, member_owned, key_back}
use Rattle.volume.specs.Closed.{has_key}
use Rattle.volume.specs.Plans.{free_at}
use Rattle.volume.specs.Writes.{over, needs, is_new, fresh, present', spot'}
use Rattle.growth.specs.Ready.{Behind, Ready}
use Rattle.growth.specs.Path.{or_left, or_right, or_split, over_zero, over_data_is, over_double, placed, starts_new, new_at, new_gone, new_first_at, fresh_at}
use Rattle.growth.specs.Room.{fresh_in, fresh_free, fresh_one}
use Rattle.volume.proofs.Readings.{off_pib}

module _ (π : Partition) (v : View) (f r : ℕ) where
  -- ---- what is present, and where

  pub present_new : (k : ℕ) → is_new π v f r k ≡ true → present' π v f r k ≡ true
  unfolding present'
  present_new k h = or_left _ (present π v f k) h

  pub present_old : (k : ℕ) → present π v f k ≡ true → present' π v f r k ≡ true
  unfolding present'
  present_old k h = or_right (is_new π v f r k) _ h

  pub present_split : (k : ℕ) → present' π v f r k ≡ true → (is_new π v f r k ≡ true) ⊎ (present π v f k ≡ true)
  unfolding present'
  present_split k h = or_split (is_new π v f r k) (present π v f k) h

  pub present_not : (k : ℕ) → is_new π v f r k ≡ false → present' π v f r k ≡ present π v f k
  unfolding present'
  present_not k h = ap (λ (t : Bool). t || present π v f k) h

  pub spot_new : (k : ℕ) → is_new π v f r k ≡ true → spot' π v f r k ≡ fresh π v f r k
  unfolding spot'
  spot_new k h = ap (λ (t : Bool). pick t (fresh π v f r k) (spot π v f k)) h

  pub spot_old : (k : ℕ) → is_new π v f r k ≡ false → spot' π v f r k ≡ spot π v f k
  unfolding spot'
  spot_old k h = ap (λ (t : Bool). pick t (fresh π v f r k) (spot π v f k)) h

  pub home_there : present' π v f r home ≡ true
  home_there = present_old home (present_home π v f)

  module _ (ok : Behind π v f r) where
    -- ---- L: one block more

    pub len_more : len v f ≤ suc r
    len_more = omega (arith, ok.next)

    pub len_short : suc r ≤ reach
    len_short = omega (arith, ok.far)

    -- what is present is asked for, or the FIB
    pub asked' : (k : ℕ) → k ≢ home → present' π v f r k ≡ true → first k < suc r
    asked' k n p = go (present_split k p)
      where
        go : (is_new π v f r k ≡ true) ⊎ (present π v f k ≡ true) → first k < suc r
        go (inl q) = omega (arith, new_first_at π v f r ok k q)
        go (inr q) = omega (arith, (here_of π v f k n q).asked, len_more)

    pub range' : (k : ℕ) → present' π v f r k ≡ true → (low (suc r) ≤ k) × (k ≤ home + suc r)
    range' k p = go (eqb k home) refl
      where
        go : (t : Bool) → eqb k home ≡ t → (low (suc r) ≤ k) × (k ≤ home + suc r)
        go true q = let e = eqb-true k home q in (omega (arith, low_home (suc r)), omega arith)
        go false q = let a = asked' k (eqb-false k home q) p in (asked_low k (suc r) a, asked_high k (suc r) a)

    -- what is asked for is present: a key of which block r is the first stands over block r, and is new
    pub full' : (k : ℕ) → first k < suc r → present' π v f r k ≡ true
    full' k l = go (ltb (first k) (len v f)) refl
      where
        place : (i : ℕ) → k ≢ home → first k ≡ r → k ≡ over r i → present' π v f r k ≡ true
        place i n m e =
            ap (present' π v f r) e
            ∙ present_new (over r i) (new_at π v f r ok i (starts_new π v f r ok i (λ z. n (e ∙ z)) (ap first (sym e) ∙ m)))

        starts : k ≢ home → first k ≡ r → (t : Bool) → ltb home k ≡ t → (u : Bool) → ltb 288 k ≡ u → present' π v f r k ≡ true
        starts n m true p u q = let a = ltb-true home k p in place 0 n m (omega (arith, first_data k a, over_zero r))
        starts n m false p true q =
            let a = ltb-true 288 k q in
            let b : k < home = omega (arith, n, ltb-false home k p) in
            let c = first_doubles k a b in
            place 2 n m (omega (arith, over_double r (omega arith) ok.far))
        starts n m false p false q =
            let a = ltb-false 288 k q in
            let c = first_pointer k a in
            place 1 n m (omega (arith, over_data_is r (omega arith)))

        other : first k ≡ r → (t : Bool) → eqb k home ≡ t → present' π v f r k ≡ true
        other m true q = ap (present' π v f r) (eqb-true k home q) ∙ home_there
        other m false q = starts (eqb-false k home q) m (ltb home k) refl (ltb 288 k) refl

        go : (t : Bool) → ltb (first k) (len v f) ≡ t → present' π v f r k ≡ true
        go true q = present_old k ((wf_of π v f ok.formed).full k (ltb-true _ _ q))
        go false q = other (omega (arith, ltb-false (first k) (len v f) q, ok.next)) (eqb k home) refl

    -- so it has the keys of a file with r + 1 blocks
    pub present'_closed : (k : ℕ) → present' π v f r k ≡ has_key (suc r) k
    present'_closed k = go (eqb k home) refl
      where
        go : (t : Bool) → eqb k home ≡ t → present' π v f r k ≡ (t || ltb (first k) (suc r))
        go true q = ap (present' π v f r) (eqb-true k home q) ∙ home_there
        go false q = iff_eq _ _ (λ p. lt-ltb _ _ (asked' k (eqb-false k home q) p)) (λ l. full' k (ltb-true _ _ l))

    -- ---- old keys keep their blocks, and new ones get the first free blocks

    pub new_old : (k : ℕ) → present π v f k ≡ true → is_new π v f r k ≡ false
    new_old k h = never _ (λ q. true≢false (sym h ∙ new_gone π v f r ok k q))

    pub spot_is : (k : ℕ) → present π v f k ≡ true → spot' π v f r k ≡ spot π v f k
    spot_is k p = spot_old k (new_old k p)

    pub spot_fib : spot' π v f r home ≡ f
    spot_fib = spot_is home (present_home π v f) ∙ spot_home π v f

    pub spot_at : (i : ℕ) → i < needs π v f r → spot' π v f r (over r i) ≡ free_at π v i
    spot_at i l = spot_new (over r i) (new_at π v f r ok i l) ∙ fresh_at π v f r ok i l

  -- ---- each key has its own block

  module _ (ok : Ready π v f r) where
    pub spot_one : (j k : ℕ) → present' π v f r j ≡ true → present' π v f r k ≡ true → spot' π v f r j ≡ spot' π v f r k → j ≡ k
    spot_one j k a b q = go (present_split j a) (present_split k b)
      where
        go : (is_new π v f r j ≡ true) ⊎ (present π v f j ≡ true) → (is_new π v f r k ≡ true) ⊎ (present π v f k ≡ true) → j ≡ k
        go (inl x) (inl y) = fresh_one π v f r ok j k x y (sym (spot_new j x) ∙ q ∙ spot_new k y)
        go (inl x) (inr y) = absurd (true≢false (sym (member_owned π v f ok.cand ok.file.formed k y) ∙ ap (owned π v) (sym (spot_is ok.file k y) ∙ sym q ∙ spot_new j x) ∙ fresh_free π v f r ok j x))
        go (inr x) (inl y) = absurd (true≢false (sym (member_owned π v f ok.cand ok.file.formed j x) ∙ ap (owned π v) (sym (spot_is ok.file j x) ∙ q ∙ spot_new k y) ∙ fresh_free π v f r ok k y))
        go (inr x) (inr y) = sym (key_back π v f ok.cand ok.file.formed j x) ∙ ap (key v) (sym (spot_is ok.file j x) ∙ q ∙ spot_is ok.file k y) ∙ key_back π v f ok.cand ok.file.formed k y

    pub spot_in_inside : (k : ℕ) → present' π v f r k ≡ true → inside π (spot' π v f r k) ≡ true
    spot_in_inside k p = go (present_split k p)
      where
        go : (is_new π v f r k ≡ true) ⊎ (present π v f k ≡ true) → inside π (spot' π v f r k) ≡ true
        go (inl q) = ap (inside π) (spot_new k q) ∙ fresh_in π v f r ok k q
        go (inr q) = ap (inside π) (spot_is ok.file k q) ∙ (member π v f ok.cand ok.file.formed k q).ins

    -- an unowned block that is not taken is none of the file's, nor is the PIB
    pub apart_free : (b : ℕ) → owned π v b ≡ false → ((i : ℕ) → i < needs π v f r → free_at π v i ≢ b) → (k : ℕ) → present' π v f r k ≡ true → spot' π v f r k ≢ b
    apart_free b o n k p z = go (present_split k p)
      where
        go : (is_new π v f r k ≡ true) ⊎ (present π v f k ≡ true) → ⊥
        go (inl h) =
            let x = placed π v f r ok.file k h in
            n x.i x.less (sym (spot_at ok.file x.i x.less) ∙ ap (spot' π v f r) (sym x.is) ∙ z)
        go (inr h) = true≢false (sym (member_owned π v f ok.cand ok.file.formed k h) ∙ ap (owned π v) (sym (spot_is ok.file k h) ∙ z) ∙ o)

    pub apart_first : (k : ℕ) → present' π v f r k ≡ true → free_at π v (needs π v f r) ≢ spot' π v f r k
    apart_first k p z = apart_free _ (ok.room (needs π v f r) (omega arith)).1 (λ i l. ok.apart i (needs π v f r) l (omega arith)) k p (sym z)

    pub apart_pib : (k : ℕ) → present' π v f r k ≡ true → π.s ≢ spot' π v f r k
    apart_pib k p z = off_pib π (spot' π v f r k) (spot_in_inside k p) (sym z)
