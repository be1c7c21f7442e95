-- A view in which the deciding store of a write is made, whatever else is: the file is well formed, and has what it had and the new keys.
use Rattle.std.specs.Prelude.{◌≡◌, refl, ◌⊎◌, ◌≢◌, [], Bool, true, false, ℕ, suc, ◌+◌, ◌-◌, ◌≤◌, ◌<◌, ltb}
use Rattle.std.proofs.Math.Path.{sym, ap}
use Rattle.std.proofs.Common.{ap₂, ◌∙◌, subst, inl, inr, true≢false, arith, ltb-true, ltb-false, eq-eqb}
use Rattle.base.specs.Tests.{pick, every, count}
use Rattle.base.specs.Laws.{iff_eq, cons_same, never}
use Rattle.drive.specs.Address.{pda, lda, lda_block, is_lda}
use Rattle.drive.specs.Laws.{lda_back, lda_pos}
use Rattle.image.specs.View.{View, pair}
use Rattle.volume.specs.Words.{serial_at, relative_at, last_address_at, in_use_at, low_number_at, low_address_at}
use Rattle.volume.specs.Search.{seek, down, seek_same, down_same, count_same}
use Rattle.volume.specs.Keys.{home, number, reach, up, slot, first, low, span}
use Rattle.volume.proofs.KeyLaws.{key_ind, low_pos, asked_low, asked_high, fib_keys}
use Rattle.volume.specs.Files.{len, spot, present, entry, well_formed, above, below, least, size, tally}
use Rattle.volume.specs.declared.Partition.{Partition}
use Rattle.volume.proofs.Index.{Here, here_of, of_here, spot_home, present_home, spot_step, entry_fib, Member, WF, wf_of, of_wf, member}
use Rattle.volume.proofs.Frame.{SameHead, same_serial}
use Rattle.volume.specs.Plans.{free_at}
use Rattle.volume.specs.Writes.{over, is_new, fresh, present', spot', above', below', least', size', last_address, low_address}
use Rattle.drive.proofs.Names.{lda_self, address_names}
use Rattle.growth.specs.Ready.{Tails, Ready}
use Rattle.growth.specs.Path.{over_zero, new_at, fresh_at, needs_some, new_first_at, new_up, home_old}
use Rattle.growth.specs.Room.{fresh_in}
use Rattle.growth.specs.Afterwards.{present_new, present_old, present_split, present_not, spot_new, spot_old, len_more, len_short, asked', full', new_old}
use Rattle.growth.specs.Neighbours.{least'_there}

module _ (π : Partition) (v : View) (f r : ℕ) where
  -- headers of old and new blocks, entries, L and its address, and the tally are as a write leaves them
  pub record Written (W : View) : Type 0 where
    pub old : (k : ℕ) → present π v f k ≡ true → SameHead (v (spot π v f k)) (W (spot π v f k))
    pub new : (k : ℕ) → is_new π v f r k ≡ true → (pair W (fresh π v f r k) serial_at ≡ pda π.drive f) × (W (fresh π v f r k) relative_at ≡ number k)
    pub entries : (k : ℕ) → k ≢ home → 0 < k → k < 37220 → present' π v f r (up k) ≡ true
        → pair W (spot' π v f r (up k)) (slot k) ≡ pick (is_new π v f r k) (lda π.drive (fresh π v f r k)) (pick (is_new π v f r (up k)) 0 (entry π v f k))
    pub length : len W f ≡ suc r
    pub last : pair W f last_address_at ≡ last_address π v f r
    pub used : W f in_use_at ≡ size' π v f r
    pub lowest : W f low_number_at ≡ number (least' π v f r)
    pub low_at : pair W f low_address_at ≡ low_address π v f r

  module _ (ok : Ready π v f r) (tails : Tails π v f) (W : View) (w : Written W) where
    -- key k is present where it should be, and stands there
    record Same (k : ℕ) : Type 0 where
      pub pre : present π W f k ≡ present' π v f r k
      pub at : present' π v f r k ≡ true → spot π W f k ≡ spot' π v f r k

    -- a key that is asked for is one
    valid : (k : ℕ) → first k < suc r → (0 < k) × (k < 37220)
    valid k l = (omega (arith, asked_low k (suc r) l, low_pos (suc r) (len_short π v f r ok.file)), omega (arith, asked_high k (suc r) l, len_short π v f r ok.file))

    -- the holder of what is present is
    up_too : (k : ℕ) → k ≢ home → present' π v f r k ≡ true → present' π v f r (up k) ≡ true
    up_too k n p = go (present_split π v f r k p)
      where
        go : (is_new π v f r k ≡ true) ⊎ (present π v f k ≡ true) → present' π v f r (up k) ≡ true
        go (inl q) = new_up π v f r ok.file k q
        go (inr q) = present_old π v f r (up k) (here_of π v f k n q).held

    -- the entry of a key, where its holder stands as it should
    module _ (k : ℕ) (n : k ≢ home) (at_up : present' π v f r (up k) ≡ true → spot π W f (up k) ≡ spot' π v f r (up k)) where
      abbrev Entry : Bool → Bool → ℕ
      Entry t u = pick t (lda π.drive (fresh π v f r k)) (pick u 0 (entry π v f k))

      entry_is : 0 < k → k < 37220 → present' π v f r (up k) ≡ true → entry π W f k ≡ Entry (is_new π v f r k) (is_new π v f r (up k))
      unfolding entry
      entry_is a b p = ap (λ (x : ℕ). pair W x (slot k)) (at_up p) ∙ w.entries k n a b p

      entry_asked : first k < suc r → present' π v f r (up k) ≡ true → entry π W f k ≡ Entry (is_new π v f r k) (is_new π v f r (up k))
      entry_asked l p = entry_is (valid k l).0 (valid k l).1 p

      entry_there : present' π v f r k ≡ true → entry π W f k ≡ Entry (is_new π v f r k) (is_new π v f r (up k))
      entry_there p = entry_asked (asked' π v f r ok.file k n p) (up_too k n p)

      entry_new : is_new π v f r k ≡ true → entry π W f k ≡ lda π.drive (fresh π v f r k)
      entry_new q = entry_there (present_new π v f r k q) ∙ ap (λ (t : Bool). Entry t (is_new π v f r (up k))) q

      entry_old : present π v f k ≡ true → entry π W f k ≡ entry π v f k
      entry_old q = entry_there (present_old π v f r k q) ∙ ap₂ Entry (new_old π v f r ok.file k q) (new_old π v f r ok.file (up k) (here_of π v f k n q).held)

    step : (k : ℕ) → k ≢ home → Same (up k) → Same k
    step k n ih = record { pre = iff_eq _ _ there back; at = at }
      where
        back : present' π v f r k ≡ true → present π W f k ≡ true
        back p = of_here π W f k n (record { asked = subst (λ (x : ℕ). first k < x) (sym w.length) (asked' π v f r ok.file k n p); held = ih.pre ∙ up_too k n p; said = go (present_split π v f r k p) })
          where
            go : (is_new π v f r k ≡ true) ⊎ (present π v f k ≡ true) → entry π W f k ≢ 0
            go (inl q) z = omega (arith, lda_pos π.drive (fresh π v f r k), sym (entry_new k n ih.at q) ∙ z)
            go (inr q) z = (here_of π v f k n q).said (sym (entry_old k n ih.at q) ∙ z)

        there : present π W f k ≡ true → present' π v f r k ≡ true
        there p = go (is_new π v f r k) refl (is_new π v f r (up k)) refl
          where
            h : Here π W f k
            h = here_of π W f k n p

            l : first k < suc r
            l = subst (λ (x : ℕ). first k < x) w.length h.asked

            u : present' π v f r (up k) ≡ true
            u = sym ih.pre ∙ h.held

            go : (t : Bool) → is_new π v f r k ≡ t → (s : Bool) → is_new π v f r (up k) ≡ s → present' π v f r k ≡ true
            go true q s m = present_new π v f r k q
            go false q true m = absurd (h.said (entry_asked k n ih.at l u ∙ ap₂ (Entry k n ih.at) q m))
            go false q false m = present_old π v f r k (of_here π v f k n (record { asked = near (ltb (first k) (len v f)) refl; held = sym (present_not π v f r (up k) m) ∙ u; said = λ z. h.said (same ∙ z) }))
              where
                same : entry π W f k ≡ entry π v f k
                same = entry_asked k n ih.at l u ∙ ap₂ (Entry k n ih.at) q m

                near : (t : Bool) → ltb (first k) (len v f) ≡ t → first k < len v f
                near true z = ltb-true _ _ z
                near false z = absurd (h.said (same ∙ tails k n (valid k l).0 (valid k l).1 (sym (present_not π v f r (up k) m) ∙ u) (ltb-false _ _ z)))

        at : present' π v f r k ≡ true → spot π W f k ≡ spot' π v f r k
        at p = go (is_new π v f r k) refl (present_split π v f r k p)
          where
            go : (t : Bool) → is_new π v f r k ≡ t → (is_new π v f r k ≡ true) ⊎ (present π v f k ≡ true) → spot π W f k ≡ spot' π v f r k
            go true q s = spot_step π W f k n ∙ ap (lda_block π.drive) (entry_new k n ih.at q) ∙ lda_back π.drive (fresh π v f r k) ∙ sym (spot_new π v f r k q)
            go false q (inl m) = absurd (true≢false (sym m ∙ q))
            go false q (inr m) = spot_step π W f k n ∙ ap (lda_block π.drive) (entry_old k n ih.at m) ∙ sym (spot_step π v f k n) ∙ sym (spot_old π v f r k q)

    same : (k : ℕ) → Same k
    same = key_ind Same base step
      where
        base : Same home
        base = record {
          pre = present_home π W f ∙ sym (present_old π v f r home (present_home π v f));
          at = λ _. spot_home π W f ∙ sym (spot_home π v f) ∙ sym (spot_old π v f r home (home_old π v f r ok.file));
        }

    -- what is present, and where
    pub written_present : (k : ℕ) → present π W f k ≡ present' π v f r k
    written_present k = (same k).pre

    pub written_spot : (k : ℕ) → present' π v f r k ≡ true → spot π W f k ≡ spot' π v f r k
    written_spot k = (same k).at

    pub spot_kept : (k : ℕ) → present π v f k ≡ true → spot π W f k ≡ spot π v f k
    spot_kept k q = written_spot k (present_old π v f r k q) ∙ spot_old π v f r k (new_old π v f r ok.file k q)

    pub spot_fresh : (k : ℕ) → is_new π v f r k ≡ true → spot π W f k ≡ fresh π v f r k
    spot_fresh k q = written_spot k (present_new π v f r k q) ∙ spot_new π v f r k q

    -- ---- well formed, rule by rule

    cases : (k : ℕ) → present π W f k ≡ true → (is_new π v f r k ≡ true) ⊎ (present π v f k ≡ true)
    cases k p = present_split π v f r k (sym (written_present k) ∙ p)

    wf : WF π v f
    wf = wf_of π v f ok.file.formed

    good : (k : ℕ) → k ≢ home → (is_new π v f r k ≡ true) ⊎ (present π v f k ≡ true) → is_lda π.drive (entry π W f k) (spot π W f k) ≡ true
    good k n (inl q) = ap₂ (is_lda π.drive) (entry_new k n (written_spot (up k)) q) (spot_fresh k q) ∙ lda_self π.drive (fresh π v f r k)
    good k n (inr q) = ap₂ (is_lda π.drive) (entry_old k n (written_spot (up k)) q) (spot_kept k q) ∙ wf.good k n q

    mine : (k : ℕ) → (is_new π v f r k ≡ true) ⊎ (present π v f k ≡ true) → Member π W f (spot π W f k) k
    mine k (inl q) = subst (λ (b : ℕ). Member π W f b k) (sym (spot_fresh k q)) (record { ins = fresh_in π v f r ok k q; ser = (w.new k q).0; num = (w.new k q).1 })
    mine k (inr q) =
        let m = member π v f ok.cand ok.file.formed k q in
        subst (λ (b : ℕ). Member π W f b k) (sym (spot_kept k q)) (record { ins = m.ins; ser = sym (same_serial (w.old k q)) ∙ m.ser; num = sym (w.old k q).rel ∙ m.num })

    nil : (k : ℕ) → k ≢ home → up k ≡ home → len W f ≤ first k → pair W f (slot k) ≡ 0
    nil k n q l = sym (at_home W) ∙ entry_is k n (written_spot (up k)) (omega (arith, b.0)) (omega (arith, b.1)) up_home
        ∙ ap₂ (Entry k n (written_spot (up k))) not_new (ap (is_new π v f r) q ∙ home_old π v f r ok.file)
        ∙ at_home v ∙ wf.nil k n q (omega (arith, len_more π v f r ok.file, w.length))
      where
        b : (257 ≤ k) × (k < 356)
        b = fib_keys k n q

        up_home : present' π v f r (up k) ≡ true
        up_home = present_old π v f r (up k) (ap (present π v f) q ∙ present_home π v f)

        at_home : (u : View) → entry π u f k ≡ pair u f (slot k)
        at_home u = entry_fib π u f k q

        not_new : is_new π v f r k ≡ false
        not_new = never _ (λ z. omega (arith, new_first_at π v f r ok.file k z, w.length))

    -- the last block is block r
    end_is : home + len W f ≡ over r 0
    end_is = omega (arith, w.length, over_zero r)

    first_new : is_new π v f r (over r 0) ≡ true
    first_new = new_at π v f r ok.file 0 (needs_some π v f r)

    ends : present π W f (home + len W f) ≡ true
    ends = ap (present π W f) end_is ∙ written_present _ ∙ present_new π v f r _ first_new

    last : is_lda π.drive (pair W f last_address_at) (spot π W f (home + len W f)) ≡ true
    last =
        ap₂ (is_lda π.drive) w.last (ap (spot π W f) end_is ∙ spot_fresh (over r 0) first_new ∙ fresh_at π v f r ok.file 0 (needs_some π v f r))
        ∙ address_names π.drive _ (free_at π v 0)

    -- link order
    pub written_above : (k : ℕ) → above π W f k ≡ above' π v f r k
    unfolding above above'
    written_above k = seek_same _ _ _ _ written_present ∙ ap (λ (n : ℕ). seek (home + n - k) (suc k) (present' π v f r)) w.length

    pub written_below : (k : ℕ) → below π W f k ≡ below' π v f r k
    unfolding below below'
    written_below k = down_same _ _ _ _ written_present ∙ ap (λ (n : ℕ). down (low n) (k - low n) (present' π v f r)) w.length

    pub written_least : least π W f ≡ least' π v f r
    unfolding least least'
    written_least = seek_same _ _ _ _ written_present ∙ ap (λ (n : ℕ). seek (span n) (low n) (present' π v f r)) w.length

    pub written_size : size π W f ≡ size' π v f r
    unfolding size size'
    written_size = count_same _ _ _ (λ i. written_present (low (len W f) + i)) ∙ ap (λ (n : ℕ). count (span n) (λ i. present' π v f r (low n + i))) w.length

    -- blocks in use, last negative number and its address
    tallied : tally π W f ≡ true
    unfolding tally every
    tallied = ap every
        (cons_same (eq-eqb _ _ (w.used ∙ sym written_size))
        (cons_same (eq-eqb _ _ (w.lowest ∙ ap number (sym written_least)))
        (cons_same {l = []} (ap₂ (is_lda π.drive) w.low_at (ap (spot π W f) written_least ∙ written_spot (least' π v f r) (least'_there π v f r ok.file).1) ∙ address_names π.drive _ (spot' π v f r (least' π v f r))) refl)))

    pub written_formed : well_formed π W f ≡ true
    written_formed = of_wf π W f (record {
      short = subst (λ (n : ℕ). n ≤ reach) (sym w.length) (len_short π v f r ok.file);
      good = λ k n p. good k n (cases k p);
      mine = λ k n p. mine k (cases k p);
      nil = nil;
      ends = ends;
      last = last;
      full = λ k l. written_present k ∙ full' π v f r ok.file k (subst (λ (n : ℕ). first k < n) w.length l);
      tallied = tallied;
    })
