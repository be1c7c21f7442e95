-- What a write starts from gives the builders of its records: which keys are new and where they stand, their links, and their records.
use mathlib.Core.Path.{◌≡◌, refl, sym, ap, ap₂, ◌∙◌, subst}
use mathlib.Core.Logic.{◌≢◌}
use mathlib.Core.Bool.{Bool, true, false, ◌&&◌, ◌||◌}
use mathlib.Core.List.{List}
use Prim.Native.Nat.{ℕ, suc, ◌+◌, ◌≤◌, ◌<◌}
use native.Mathlib.Omega.{arith}
use lib.Dec.{leb, ltb, eqb}
use borrow.Author.Tests.{ltb-true, eq-eqb, ne_eqb, le-leb}
use Rattle.base.specs.Tests.{pick, both}
use Rattle.drive.specs.Address.{pda, lda, address}
use Rattle.image.specs.View.{View, Rec, pair, put, put2}
use Rattle.image.specs.Image.{view}
use Rattle.image.specs.Saves.{with_data}
use Rattle.volume.specs.Words.{next_at, previous_at, last_block_at, last_address_at, low_address_at}
use Rattle.volume.specs.Keys.{home, number, up, slot, low}
use Rattle.volume.proofs.KeyLaws.{low_home, low_pos, up_most}
use Rattle.volume.specs.Files.{spot, present}
use Rattle.volume.specs.declared.Partition.{Partition}
use Rattle.volume.proofs.Index.{spot_home}
use Rattle.volume.specs.Closed.{next_key, prev_key, size_of}
use Rattle.volume.proofs.Closed.{next_key_is, prev_key_is}
use Rattle.volume.specs.Plans.{st, free_at}
use Rattle.volume.specs.Writes.{put2_if, over, counted, needs, is_new, fresh, present', spot', link', empty, base, entered, body, grown, store}
use Rattle.growth.specs.Ready.{Behind}
use Rattle.growth.specs.Path.{both_none, over_zero, over_up, over_top, over_one, needs_some, needs_few, placed, new_at, fresh_at, home_old}
use Rattle.growth.specs.Afterwards.{present_not, spot_new, spot_old, len_short, range', present'_closed}
use Rattle.growth.specs.Neighbours.{above'_closed, below'_closed, least'_closed}
use Rattle.growth.specs.Grown.{body_inner, base_new, base_old, ended_is}
use Rattle.records.specs.Records.{Block}
use Rattle.records.proofs.Laws.{block_in}
use Rattle.append.specs.declared.Append.{Append}
use Rattle.append.specs.Appends.{Appends}
use Rattle.append.proofs.Numbers.{size'_closed, pointer_there, double_there, double_inner, above_there, below_there, top_there, last_there}

-- the code's tests of new keys
and_is : (a b : Bool) → (a && b) ≡ both a b
unfolding both
and_is true b = refl
and_is false b = refl

or_assoc : (a b c : Bool) → ((a || b) || c) ≡ (a || (b || c))
or_assoc true b c = refl
or_assoc false b c = refl

-- the number of the last block is its key's
pub number_last : (n : ℕ) → n < 32767 → number (292 + n) ≡ n
unfolding number
number_last n h = omega arith

module _ {w : Append} {l : List ℕ} (G : Appends w l) where
  abbrev π : Partition
  π = w.p

  abbrev v : View
  v = view l

  abbrev f : ℕ
  f = w.f

  abbrev n : ℕ
  n = w.n

  pub behind : Behind π v f n
  behind = record { formed = G.opened.formed; next = G.next; far = G.far }

  more : suc n ≡ n + 1
  more = omega arith

  -- ---- new keys

  -- the keys over block n
  module _ (c e : ℕ) (hc : c ≡ up (292 + n)) (he : e ≡ up c) where
    pub key_one : c ≡ over n 1
    key_one = hc ∙ ap up (sym (over_zero n)) ∙ over_up n 0

    pub key_two : e ≡ over n 2
    key_two = he ∙ ap up key_one ∙ over_up n 1

    pub new_is : (k : ℕ) → ((eqb k (292 + n) || (ltb 1 w.m && eqb k c)) || (ltb 2 w.m && eqb k e)) ≡ is_new π v f n k
    unfolding is_new both
    new_is k =
        or_assoc (eqb k (292 + n)) (ltb 1 w.m && eqb k c) (ltb 2 w.m && eqb k e)
        ∙ ap₂ ◌||◌ (ap (eqb k) (sym (over_zero n)) ∙ sym (ap (λ (t : Bool). both t (eqb k (over n 0))) (le-leb 1 (needs π v f n) (needs_some π v f n))))
        (ap₂ ◌||◌ (and_is (ltb 1 w.m) (eqb k c) ∙ ap₂ (λ (m j : ℕ). both (leb 2 m) (eqb k j)) G.many key_one)
        (and_is (ltb 2 w.m) (eqb k e) ∙ ap₂ (λ (m j : ℕ). both (leb 3 m) (eqb k j)) G.many key_two))

  module _ (k : ℕ) (h : is_new π v f n k ≡ true) where
    -- the block of a new key, by its place
    fresh_of : (b : ℕ) → ((i : ℕ) → i < needs π v f n → k ≡ over n i → b ≡ free_at π v i) → b ≡ fresh π v f n k
    fresh_of b g =
        let p = placed π v f n behind k h in
        g p.i p.less p.is ∙ sym (ap (fresh π v f n) p.is ∙ fresh_at π v f n behind p.i p.less)

    place_is : (i j : ℕ) → i < needs π v f n → k ≡ over n i → j ≤ needs π v f n → k ≡ over n j → i ≡ j
    place_is i j l p m q = over_one π v f n behind i j (omega arith) m (sym p ∙ q)

    pub fresh_data : k ≡ 292 + n → w.a ≡ fresh π v f n k
    fresh_data q = fresh_of w.a (λ i m p. G.first ∙ ap (free_at π v) (sym (place_is i 0 m p (omega arith) (q ∙ sym (over_zero n)))))

    module _ (c : ℕ) (hc : c ≡ up (292 + n)) where
      one : c ≡ over n 1
      one = key_one c (up c) hc refl

      pub fresh_pointer : k ≡ c → w.q ≡ fresh π v f n k
      fresh_pointer q = fresh_of w.q (λ i m p. G.second ∙ ap (free_at π v) (sym (place_is i 1 m p (needs_some π v f n) (q ∙ one))))

      pub fresh_double : k ≢ 292 + n → k ≢ c → w.d ≡ fresh π v f n k
      fresh_double a b = fresh_of w.d (λ i m p. G.third ∙ ap (free_at π v) (sym (third i m p)))
        where
          third : (i : ℕ) → i < needs π v f n → k ≡ over n i → i ≡ 2
          third i m p =
              let x : i ≢ 0 = λ z. a (p ∙ ap (over n) z ∙ over_zero n) in
              let y : i ≢ 1 = λ z. b (p ∙ ap (over n) z ∙ sym one) in
              omega (arith, needs_few π v f n)

    pub fresh_block : (b : ℕ) → b ≡ fresh π v f n k → Block l b
    fresh_block b q =
        let p = placed π v f n behind k h in
        subst (Block l) (sym (q ∙ ap (fresh π v f n) p.is ∙ fresh_at π v f n behind p.i p.less)) (G.room p.i (omega (arith, p.less, G.many)))

    pub at_new : (b : ℕ) → b ≡ fresh π v f n k → (b ≡ spot' π v f n k) × Block l b
    at_new b q = (q ∙ sym (spot_new π v f n k h), fresh_block b q)

  pub data_new : is_new π v f n (292 + n) ≡ true
  data_new = ap (is_new π v f n) (sym (over_zero n)) ∙ new_at π v f n behind 0 (needs_some π v f n)

  -- ---- keys of stores, not the data's

  module _ (c : ℕ) (hc : c ≡ up (292 + n)) where
    pub pointer_has : (present' π v f n c ≡ true) × (c < 292 + n)
    pointer_has = (ap (present' π v f n) (key_one c (up c) hc refl) ∙ pointer_there π v f n behind, omega (arith, hc, up_most (292 + n)))

    module _ (e : ℕ) (he : e ≡ up c) where
      pub double_has : (present' π v f n e ≡ true) × (e < 292 + n)
      double_has = (ap (present' π v f n) (key_two c e hc he) ∙ double_there π v f n behind, omega (arith, he, up_most c))

      pub above_has : ltb 2 w.m ≡ true → (present' π v f n (e + 1) ≡ true) × (e + 1 < 292 + n)
      above_has h =
          let m : 2 < needs π v f n = omega (arith, ltb-true 2 w.m h, G.many) in
          let q = key_two c e hc he in
          (ap (present' π v f n) (let z : e + 1 ≡ suc (over n 2) = omega arith in z) ∙ above_there π v f n behind m, omega (arith, double_inner π v f n behind m))

  pub below_has : ltb 2 w.m ≡ true → (present' π v f n 288 ≡ true) × (288 < 292 + n)
  below_has h = (below_there π v f n behind (omega (arith, ltb-true 2 w.m h, G.many)), omega arith)

  pub last_has : (present' π v f n (home + n) ≡ true) × (home + n < 292 + n)
  last_has = (last_there π v f n behind, omega arith)

  pub top_has : (k : ℕ) → k ≡ low n → (present' π v f n k ≡ true) × (k < 292 + n)
  top_has k h = (ap (present' π v f n) h ∙ top_there π v f n behind, omega (arith, h, low_home n))

  -- ---- keys that are not new

  module _ (k : ℕ) (h : is_new π v f n k ≡ false) where
    pub still_there : present' π v f n k ≡ true → present π v f k ≡ true
    still_there p = sym (present_not π v f n k h) ∙ p

    pub at_old : (b : ℕ) → b ≡ spot π v f k → b ≤ π.e → (b ≡ spot' π v f n k) × Block l b
    at_old b z m = (z ∙ sym (spot_old π v f n k h), block_in G.opened.lies b m)

  -- ---- links

  pub key_small : (k : ℕ) → present' π v f n k ≡ true → (1 ≤ k) × (k < 33060)
  key_small k p =
      let r = range' π v f n behind k p in
      (omega (arith, r.0, low_pos (suc n) (len_short π v f n behind)), omega (arith, r.1, G.far))

  module _ (k : ℕ) where
    pub link_none : k < 1 → (0 ≡ link' π v f n k) × (0 < 4294967296)
    unfolding link'
    link_none h = (sym (ap (λ (t : Bool). pick t 0 (pda π.drive (spot' π v f n k))) (eq-eqb k 0 (omega arith))), omega arith)

    pub link_some : (b r : ℕ) → 1 ≤ k → b ≡ spot' π v f n k → r ≡ pda π.drive b → r ≡ link' π v f n k
    unfolding link'
    link_some b r h p z = z ∙ ap (pda π.drive) p ∙ sym (ap (λ (t : Bool). pick t 0 (pda π.drive (spot' π v f n k))) (ne_eqb k 0 (λ y. omega arith)))

    module _ (p : present' π v f n k ≡ true) where
      pub next_there : (j : ℕ) → j ≡ next_key (n + 1) k → 0 < j → present' π v f n j ≡ true
      next_there j h m =
          ap (present' π v f n) (h ∙ ap (λ (x : ℕ). next_key x k) (sym more))
          ∙ ((next_key_is (suc n) (len_short π v f n behind) (present' π v f n) (present'_closed π v f n behind) k p).hit (λ z. omega (arith, z, h, ap (λ (x : ℕ). next_key x k) more))).0

      pub prev_there : (j : ℕ) → j ≡ prev_key (n + 1) k → 0 < j → present' π v f n j ≡ true
      prev_there j h m =
          ap (present' π v f n) (h ∙ ap (λ (x : ℕ). prev_key x k) (sym more))
          ∙ ((prev_key_is (suc n) (len_short π v f n behind) (present' π v f n) (present'_closed π v f n behind) k p).hit (λ z. omega (arith, z, h, ap (λ (x : ℕ). prev_key x k) more))).0

      -- a record with both links, in the key's block
      pub store_is : (b back on below above : ℕ) (x dat : Rec) → b ≡ spot' π v f n k → below ≡ prev_key (n + 1) k → above ≡ next_key (n + 1) k
          → back ≡ link' π v f n below → on ≡ link' π v f n above → x ≡ body π v f n dat k → st b (put2 next_at on (put2 previous_at back x)) ≡ store π v f n dat k
      unfolding grown
      store_is b back on below above x dat hb hp hn hk ho hx =
          rw (hb, hk, ho, hp, hn, hx, above'_closed π v f n behind k p, below'_closed π v f n behind k p, more)

  -- ---- records

  module _ (dat : Rec) where
    -- the base of a key but the data's
    pub base_stamped : (k : ℕ) (x : Rec) → k < 292 + n → is_new π v f n k ≡ true → x ≡ empty π v f n dat k → x ≡ base π v f n dat k
    base_stamped k x m h q =
        q ∙ sym (base_new π v f n dat k h ∙ ap (λ (t : Bool). pick t (with_data dat (empty π v f n dat k)) (empty π v f n dat k)) (ne_eqb k (over n 0) (λ z. omega (arith, z, over_zero n))))

    pub base_there : (k b : ℕ) (x : Rec) → is_new π v f n k ≡ false → b ≡ spot π v f k → x ≡ v b → x ≡ base π v f n dat k
    base_there k b x h p q = q ∙ ap v p ∙ sym (base_old π v f n dat k h)

    -- the entries that a key gains, one after the other
    pub entered_is : (k c e : ℕ) (x y z u : Rec) → c ≡ up (292 + n) → e ≡ up c → x ≡ base π v f n dat k
        → y ≡ put2_if (ltb 2 w.m && eqb home k) (slot e) (lda π.drive w.d) x
        → z ≡ put2_if (ltb 1 w.m && eqb e k) (slot c) (lda π.drive w.q) y
        → u ≡ put2_if (eqb c k) (slot (292 + n)) (lda π.drive w.a) z
        → u ≡ entered π v f n dat k (base π v f n dat k)
    unfolding entered over both
    entered_is k c e x y z u hc he hx hy hz hu =
        rw (hu, hz, hy, hx, and_is, G.first, G.second, G.third, G.many, he, hc, sym (over_top n), le-leb 1 (needs π v f n) (needs_some π v f n))

    -- a data block gains none
    entered_none : (k : ℕ) (x : Rec) → ((i : ℕ) → over n (suc i) ≢ k) → entered π v f n dat k x ≡ x
    unfolding entered put2_if
    entered_none k x h = rw (ne_eqb (over n 1) k (h 0), ne_eqb (over n 2) k (h 1), ne_eqb (over n 3) k (h 2), both_none (leb 1 (needs π v f n)), both_none (leb 2 (needs π v f n)), both_none (leb 3 (needs π v f n)))

    pub body_data : (x : Rec) → x ≡ empty π v f n dat (292 + n) → with_data dat x ≡ body π v f n dat (292 + n)
    body_data x q =
        ap (with_data dat) q
        ∙ sym (body_inner π v f n dat (292 + n) (λ z. omega arith) ∙ entered_none (292 + n) _ (λ i z. omega (arith, z, over_up n i, up_most (over n i)))
        ∙ base_new π v f n dat (292 + n) data_new
        ∙ ap (λ (t : Bool). pick t (with_data dat (empty π v f n dat (292 + n))) (empty π v f n dat (292 + n))) (eq-eqb (292 + n) (over n 0) (sym (over_zero n))))

    -- the FIB
    pub body_fib : (x : Rec) (k b : ℕ) → k ≡ low (n + 1) → b ≡ spot' π v f n k → x ≡ entered π v f n dat home (base π v f n dat home)
        → counted (size_of (n + 1)) (number k) (address π.drive (pair v f low_address_at) b) (put last_block_at n (put2 last_address_at (address π.drive (pair v f last_address_at) w.a) x))
        ≡ body π v f n dat home
    unfolding body
    body_fib x k b hk hb hx =
        rw (hx, hb, hk, base_old π v f n dat home (home_old π v f n behind), spot_home π v f, size'_closed π v f n behind, least'_closed π v f n behind, more, G.first, ended_is)

-- which keys of stores are there
pub ruleset keys_there = (pointer_has, double_has, below_has, last_has, top_has)
