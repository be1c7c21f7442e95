-- The records that a write stores, word by word.
use Rattle.std.specs.Prelude.{◌≡◌, ◌⊎◌, ◌≢◌, Bool, ◌||◌, ℕ, suc, ◌+◌, ◌-◌, ◌*◌, ◌≤◌, ◌<◌}
use Rattle.std.proofs.Math.Path.{refl, ap, ap₂}
use Rattle.std.proofs.Common.{sym, ◌∙◌, inl, inr, arith}
use Rattle.std.proofs.Math.Bool.{true, false}
use Rattle.std.proofs.Math.Dec.{leb, eqb}
use borrow.Author.Tests.{eqb-true, eqb-false, lt-ltb, le-ltb, eq-eqb, ne_eqb, leb-true}
use Rattle.base.specs.Tests.{pick, both}
use Rattle.base.specs.Laws.{both_left, both_right}
use Rattle.drive.specs.Address.{pda, lda}
use Rattle.image.specs.View.{View, Rec, pair, put, put2, blank}
use Rattle.image.specs.Saves.{with_data}
use Rattle.volume.specs.Words.{last_block_at, last_address_at}
use Rattle.volume.specs.Keys.{home, number, up, slot, child}
use Rattle.volume.proofs.KeyLaws.{child_slot, slot_low, slot_fib, up_most}
use Rattle.volume.specs.Files.{spot, entry}
use Rattle.volume.specs.declared.Partition.{Partition}
use Rattle.volume.proofs.Index.{spot_home}
use Rattle.volume.specs.Plans.{free_at}
use Rattle.volume.specs.Writes.{put2_if, over, counted, needs, newly, is_new, fresh, above', below', least', size', link', last_address, low_address, empty, base, holds, entered, ended, body, grown}
use Rattle.frame.specs.Repair.{links_off}
use Rattle.frame.specs.Reading.{two, put_off, put_here, put2_off, put2_here, put2_if_off}
use Rattle.growth.specs.Ready.{Behind}
use Rattle.growth.specs.Path.{over_zero, over_up, new_not_home, over_pos, over_few, home_old}

-- the words of two entries of one block do not meet
pub slots_apart : (c j x y : ℕ) → c ≢ home → 0 < c → c < 37220 → j ≢ home → 0 < j → j < 37220 → x < 2 → y < 2 → up c ≡ up j → c ≢ j → slot c + x ≢ slot j + y
slots_apart c j x y a b d e g h l m q n z =
    n (sym (child_slot c x b d a l) ∙ ap₂ child q z ∙ child_slot j y g h e m)

module _ (π : Partition) (v : View) (f r : ℕ) (dat : Rec) where
  -- a word that is none of an entry that k gains
  pub entered_off : (k w : ℕ) (x : Rec) → ((i : ℕ) → i < 3 → holds π v f r dat i k ≡ true → (w ≢ slot (over r i)) × (w ≢ slot (over r i) + 1)) → entered π v f r dat k x w ≡ x w
  unfolding entered
  entered_off k w x h =
      put2_if_off _ _ _ _ w (h 0 (omega arith)) ∙ put2_if_off _ _ _ _ w (h 1 (omega arith)) ∙ put2_if_off _ _ _ x w (h 2 (omega arith))

  -- L and its address
  pub ended_is : (x : Rec) → ended π v f r dat x ≡ put last_block_at r (put2 last_address_at (last_address π v f r) x)
  unfolding ended
  ended_is x = refl

  ended_off : (w : ℕ) (x : Rec) → w ≢ 258 → w ≢ 259 → w ≢ 260 → ended π v f r dat x w ≡ x w
  ended_off w x a b c = ap (λ (y : Rec). y w) (ended_is x) ∙ put_off 258 _ _ w a ∙ put2_off 259 _ x w b c

  counted_off : (z m a w : ℕ) (x : Rec) → w ≢ 257 → w < 261 → counted z m a x w ≡ x w
  unfolding counted
  counted_off z m a w x n l = put_off 257 _ _ w n ∙ put_off 261 _ _ w (λ z. omega arith) ∙ put2_off 262 _ x w (λ z. omega arith) (λ z. omega arith)

  body_home : (w : ℕ) → w ≢ 257 → w < 261 → body π v f r dat home w ≡ ended π v f r dat (entered π v f r dat home (v f)) w
  unfolding body
  body_home w n l = counted_off (size' π v f r) (number (least' π v f r)) (low_address π v f r) w _ n l

  pub body_inner : (k : ℕ) → k ≢ home → body π v f r dat k ≡ entered π v f r dat k (base π v f r dat k)
  unfolding body
  body_inner k n = ap (λ (t : Bool). pick t (counted (size' π v f r) (number (least' π v f r)) (low_address π v f r) (ended π v f r dat (entered π v f r dat home (v f)))) (entered π v f r dat k (base π v f r dat k))) (ne_eqb k home n)

  pub base_new : (k : ℕ) → is_new π v f r k ≡ true → base π v f r dat k ≡ pick (eqb k (over r 0)) (with_data dat (empty π v f r dat k)) (empty π v f r dat k)
  unfolding base
  base_new k h = ap (λ (t : Bool). pick t (pick (eqb k (over r 0)) (with_data dat (empty π v f r dat k)) (empty π v f r dat k)) (v (spot π v f k))) h

  pub base_old : (k : ℕ) → is_new π v f r k ≡ false → base π v f r dat k ≡ v (spot π v f k)
  unfolding base
  base_old k h = ap (λ (t : Bool). pick t (pick (eqb k (over r 0)) (with_data dat (empty π v f r dat k)) (empty π v f r dat k)) (v (spot π v f k))) h

  pub grown_off : (k w : ℕ) → w ≢ 4 → w ≢ 5 → w ≢ 6 → w ≢ 7 → grown π v f r dat k w ≡ body π v f r dat k w
  unfolding grown
  grown_off k w a b c d = links_off _ _ (body π v f r dat k) w a b c d

  -- ---- a new block

  base_low : (k w : ℕ) → is_new π v f r k ≡ true → w < 8 → base π v f r dat k w ≡ empty π v f r dat k w
  unfolding with_data
  base_low k w h l = ap (λ (x : Rec). x w) (base_new k h) ∙ go (eqb k (over r 0))
    where
      go : (t : Bool) → pick t (with_data dat (empty π v f r dat k)) (empty π v f r dat k) w ≡ empty π v f r dat k w
      go true = ap (λ (t : Bool). pick t (empty π v f r dat k w) (dat (w - 8))) (lt-ltb w 8 l)
      go false = refl

  empty_high : (k w : ℕ) → 8 ≤ w → empty π v f r dat k w ≡ 0
  unfolding empty blank
  empty_high k w l = put2_off 0 _ _ w (λ z. omega arith) (λ z. omega arith) ∙ put_off 2 _ _ w (λ z. omega arith) ∙ put_off 3 _ _ w (λ z. omega arith)

  base_inner : (k w : ℕ) → is_new π v f r k ≡ true → k ≤ home → 8 ≤ w → base π v f r dat k w ≡ 0
  base_inner k w h l m =
      ap (λ (x : Rec). x w) (base_new k h)
      ∙ ap (λ (t : Bool). pick t (with_data dat (empty π v f r dat k)) (empty π v f r dat k) w) (ne_eqb k (over r 0) (λ z. omega (arith, over_zero r))) ∙ empty_high k w m

  -- a data block gains no entry
  grown_base : (k : ℕ) → home < k → (w : ℕ) → 8 ≤ w → grown π v f r dat k w ≡ base π v f r dat k w
  unfolding over
  grown_base k l w m =
      grown_off k w (λ z. omega arith) (λ z. omega arith) (λ z. omega arith) (λ z. omega arith)
      ∙ ap (λ (x : Rec). x w) (body_inner k (λ z. omega arith))
      ∙ entered_off k w _ (λ i _ g. absurd (omega (arith, up_most (over r i), eqb-true (over r (suc i)) k (both_right _ _ g))))

  -- the new data
  pub new_data : (w : ℕ) → is_new π v f r (over r 0) ≡ true → 8 ≤ w → grown π v f r dat (over r 0) w ≡ dat (w - 8)
  unfolding with_data
  new_data w h l =
      grown_base (over r 0) (omega (arith, over_zero r)) w l ∙ ap (λ (x : Rec). x w) (base_new (over r 0) h)
      ∙ ap (λ (t : Bool). pick t (with_data dat (empty π v f r dat (over r 0))) (empty π v f r dat (over r 0)) w) (eq-eqb (over r 0) (over r 0) refl)
      ∙ ap (λ (t : Bool). pick t (empty π v f r dat (over r 0) w) (dat (w - 8))) (le-ltb w 8 l)

  pub base_entry : (c : ℕ) → two (base π v f r dat (up c)) (slot c) ≡ pick (is_new π v f r (up c)) 0 (entry π v f c)
  unfolding entry
  base_entry c = go (is_new π v f r (up c)) refl
    where
      go : (t : Bool) → is_new π v f r (up c) ≡ t → two (base π v f r dat (up c)) (slot c) ≡ pick t 0 (pair v (spot π v f (up c)) (slot c))
      go true q = ap₂ (λ (x y : ℕ). x + 65536 * y) (base_inner (up c) (slot c) q (up_most c) (slot_low c)) (base_inner (up c) (slot c + 1) q (up_most c) (omega (arith, slot_low c)))
      go false q = ap (λ (x : Rec). two x (slot c)) (base_old (up c) q)

  -- ---- the FIB's numbers

  fib_word_is : (w : ℕ) → 258 ≤ w → w < 261 → grown π v f r dat home w ≡ put last_block_at r (put2 last_address_at (last_address π v f r) (entered π v f r dat home (v f))) w
  fib_word_is w l m =
      grown_off home w (λ z. omega arith) (λ z. omega arith) (λ z. omega arith) (λ z. omega arith) ∙ body_home w (λ z. omega arith) m
      ∙ ap (λ (y : Rec). y w) (ended_is (entered π v f r dat home (v f)))

  pub fib_length : grown π v f r dat home 258 ≡ r
  fib_length = fib_word_is 258 (omega arith) (omega arith) ∙ put_here 258 r _

  pub fib_last : two (grown π v f r dat home) 259 ≡ last_address π v f r
  fib_last =
      ap₂ (λ (x y : ℕ). x + 65536 * y)
      (fib_word_is 259 (omega arith) (omega arith) ∙ put_off 258 r _ 259 (λ z. omega arith)) (fib_word_is 260 (omega arith) (omega arith) ∙ put_off 258 r _ 260 (λ z. omega arith))
      ∙ put2_here 259 (last_address π v f r) _

  -- ---- what is kept

  pub grown_data : (k : ℕ) → home < k → is_new π v f r k ≡ false → (w : ℕ) → 8 ≤ w → grown π v f r dat k w ≡ v (spot π v f k) w
  grown_data k l h w m = grown_base k l w m ∙ ap (λ (x : Rec). x w) (base_old k h)

  -- ---- links and the tally

  pub grown_next : (k : ℕ) → two (grown π v f r dat k) 4 ≡ link' π v f r (above' π v f r k)
  unfolding grown
  grown_next k = put2_here 4 (link' π v f r (above' π v f r k)) _

  pub grown_prev : (k : ℕ) → two (grown π v f r dat k) 6 ≡ link' π v f r (below' π v f r k)
  unfolding grown
  grown_prev k =
      ap₂ (λ (x y : ℕ). x + 65536 * y) (put2_off 4 _ _ 6 (λ z. omega arith) (λ z. omega arith)) (put2_off 4 _ _ 7 (λ z. omega arith) (λ z. omega arith))
      ∙ put2_here 6 (link' π v f r (below' π v f r k)) _

  fib_high : (w : ℕ) → 8 ≤ w → grown π v f r dat home w ≡ counted (size' π v f r) (number (least' π v f r)) (low_address π v f r) (ended π v f r dat (entered π v f r dat home (v f))) w
  unfolding body
  fib_high w l = grown_off home w (λ z. omega arith) (λ z. omega arith) (λ z. omega arith) (λ z. omega arith)

  pub fib_size : grown π v f r dat home 257 ≡ size' π v f r
  unfolding counted
  fib_size = fib_high 257 (omega arith) ∙ put_here 257 (size' π v f r) _

  pub fib_low : grown π v f r dat home 261 ≡ number (least' π v f r)
  unfolding counted
  fib_low = fib_high 261 (omega arith) ∙ put_off 257 _ _ 261 (λ z. omega arith) ∙ put_here 261 (number (least' π v f r)) _

  pub fib_address : two (grown π v f r dat home) 262 ≡ low_address π v f r
  unfolding counted
  fib_address =
      ap₂ (λ (x y : ℕ). x + 65536 * y)
      (fib_high 262 (omega arith) ∙ put_off 257 _ _ 262 (λ z. omega arith) ∙ put_off 261 _ _ 262 (λ z. omega arith))
      (fib_high 263 (omega arith) ∙ put_off 257 _ _ 263 (λ z. omega arith) ∙ put_off 261 _ _ 263 (λ z. omega arith))
      ∙ put2_here 262 _ _

  -- ---- with the keys over block r

  module _ (ok : Behind π v f r) where
    -- one entry
    put_one : (i c a : ℕ) (x : Rec) → c ≢ home → 0 < c → c < 37220
        → two (put2_if (holds π v f r dat i (up c)) (slot (over r i)) a x) (slot c) ≡ pick (newly π v f r i c) a (two x (slot c))
    unfolding both put2_if over
    put_one i c a x n p m = go (leb (suc i) (needs π v f r)) refl (eqb c (over r i)) refl
      where
        go : (t : Bool) → leb (suc i) (needs π v f r) ≡ t → (u : Bool) → eqb c (over r i) ≡ u
            → two (put2_if (both t (eqb (over r (suc i)) (up c))) (slot (over r i)) a x) (slot c) ≡ pick (both t u) a (two x (slot c))
        go false q u z = refl
        go true q true z =
            let e = eqb-true c (over r i) z in
            ap (λ (t : Bool). two (pick t (put2 (slot (over r i)) a x) x) (slot c)) (eq-eqb (over r (suc i)) (up c) (ap up (sym e)))
            ∙ ap (λ (y : ℕ). two (put2 (slot (over r i)) a x) (slot y)) e ∙ put2_here (slot (over r i)) a x
        go true q false z = at (eqb (over r (suc i)) (up c)) refl
          where
            less : i < needs π v f r
            less = leb-true (suc i) (needs π v f r) q

            off : (y w : ℕ) → y < 2 → w < 2 → up (over r i) ≡ up c → slot c + y ≢ slot (over r i) + w
            off y w k l e = slots_apart c (over r i) y w n p m (new_not_home π v f r ok i less) (over_pos π v f r ok i (omega (arith, less))) (over_few π v f r ok i) k l (sym e) (eqb-false c (over r i) z)

            at : (s : Bool) → eqb (over r (suc i)) (up c) ≡ s → two (pick s (put2 (slot (over r i)) a x) x) (slot c) ≡ two x (slot c)
            at false s = refl
            at true s =
                let e = eqb-true (over r (suc i)) (up c) s in
                ap₂ (λ (y z : ℕ). y + 65536 * z)
                (put2_off (slot (over r i)) a x (slot c) (λ z. off 0 0 (omega arith) (omega arith) e (omega arith)) (λ z. off 0 1 (omega arith) (omega arith) e (omega arith)))
                (put2_off (slot (over r i)) a x (slot c + 1) (λ z. off 1 0 (omega arith) (omega arith) e (omega arith)) (λ z. off 1 1 (omega arith) (omega arith) e (omega arith)))

    -- the entry of key c in its holder
    entered_at : (c : ℕ) (x : Rec) → c ≢ home → 0 < c → c < 37220
        → two (entered π v f r dat (up c) x) (slot c) ≡ pick (is_new π v f r c) (lda π.drive (fresh π v f r c)) (two x (slot c))
    unfolding entered is_new fresh
    entered_at c x n p m =
        put_one 0 c _ _ n p m ∙ ap (pick (newly π v f r 0 c) _) (put_one 1 c _ _ n p m ∙ ap (pick (newly π v f r 1 c) _) (put_one 2 c _ x n p m))
        ∙ go (newly π v f r 0 c) (newly π v f r 1 c) (newly π v f r 2 c)
      where
        go : (a b d : Bool) → pick a (lda π.drive (free_at π v 0)) (pick b (lda π.drive (free_at π v 1)) (pick d (lda π.drive (free_at π v 2)) (two x (slot c))))
            ≡ pick (a || (b || d)) (lda π.drive (pick a (free_at π v 0) (pick b (free_at π v 1) (free_at π v 2)))) (two x (slot c))
        go true b d = refl
        go false true d = refl
        go false false true = refl
        go false false false = refl

    base_home : base π v f r dat home ≡ v f
    base_home = base_old home (home_old π v f r ok) ∙ ap v (spot_home π v f)

    -- serial and relative number
    pub grown_head : (k w : ℕ) → w < 4 → grown π v f r dat k w ≡ base π v f r dat k w
    grown_head k w l = grown_off k w (λ z. omega arith) (λ z. omega arith) (λ z. omega arith) (λ z. omega arith) ∙ go (eqb k home) refl
      where
        off : (j : ℕ) (i : ℕ) → i < 3 → holds π v f r dat i j ≡ true → (w ≢ slot (over r i)) × (w ≢ slot (over r i) + 1)
        off j i _ _ = ((λ z. omega (arith, slot_low (over r i))), (λ z. omega (arith, slot_low (over r i))))

        go : (t : Bool) → eqb k home ≡ t → body π v f r dat k w ≡ base π v f r dat k w
        go true q =
            let e = eqb-true k home q in
            ap (λ (j : ℕ). body π v f r dat j w) e ∙ body_home w (λ z. omega arith) (omega arith)
            ∙ ended_off w _ (λ z. omega arith) (λ z. omega arith) (λ z. omega arith) ∙ entered_off home w (v f) (off home)
            ∙ sym (ap (λ (j : ℕ). base π v f r dat j w) e ∙ ap (λ (x : Rec). x w) base_home)
        go false q = ap (λ (x : Rec). x w) (body_inner k (eqb-false k home q)) ∙ entered_off k w (base π v f r dat k) (off k)

    -- an entry
    pub grown_entry : (c : ℕ) → c ≢ home → 0 < c → c < 37220
        → two (grown π v f r dat (up c)) (slot c) ≡ pick (is_new π v f r c) (lda π.drive (fresh π v f r c)) (two (base π v f r dat (up c)) (slot c))
    grown_entry c n p m =
        ap₂ (λ (x y : ℕ). x + 65536 * y)
        (grown_off (up c) (slot c) (λ z. omega (arith, slot_low c)) (λ z. omega (arith, slot_low c)) (λ z. omega (arith, slot_low c)) (λ z. omega (arith, slot_low c)))
        (grown_off (up c) (slot c + 1) (λ z. omega (arith, slot_low c)) (λ z. omega (arith, slot_low c)) (λ z. omega (arith, slot_low c)) (λ z. omega (arith, slot_low c)))
        ∙ go (eqb (up c) home) refl
      where
        go : (t : Bool) → eqb (up c) home ≡ t → two (body π v f r dat (up c)) (slot c) ≡ pick (is_new π v f r c) (lda π.drive (fresh π v f r c)) (two (base π v f r dat (up c)) (slot c))
        go true q =
            let e = eqb-true (up c) home q in
            let s = slot_fib c n e in
            ap (λ (j : ℕ). two (body π v f r dat j) (slot c)) e
            ∙ ap₂ (λ (x y : ℕ). x + 65536 * y) (at (slot c) (omega (arith, s.1))) (at (slot c + 1) (omega (arith, s.1)))
            ∙ ap (λ (j : ℕ). two (entered π v f r dat j (v f)) (slot c)) (sym e)
            ∙ entered_at c (v f) n p m
            ∙ ap (λ (x : Rec). pick (is_new π v f r c) (lda π.drive (fresh π v f r c)) (two x (slot c))) (sym base_home ∙ ap (base π v f r dat) (sym e))
          where
            at : (w : ℕ) → w < 256 → body π v f r dat home w ≡ entered π v f r dat home (v f) w
            at w l = body_home w (λ z. omega arith) (omega arith) ∙ ended_off w _ (λ z. omega arith) (λ z. omega arith) (λ z. omega arith)
        go false q = ap (λ (x : Rec). two x (slot c)) (body_inner (up c) (eqb-false (up c) home q)) ∙ entered_at c (base π v f r dat (up c)) n p m

    pub new_serial : (k : ℕ) → is_new π v f r k ≡ true → two (grown π v f r dat k) 0 ≡ pda π.drive f
    unfolding empty
    new_serial k h =
        ap₂ (λ (x y : ℕ). x + 65536 * y) (grown_head k 0 (omega arith) ∙ base_low k 0 h (omega arith)) (grown_head k 1 (omega arith) ∙ base_low k 1 h (omega arith))
        ∙ put2_here 0 (pda π.drive f) _

    pub new_number : (k : ℕ) → is_new π v f r k ≡ true → grown π v f r dat k 2 ≡ number k
    unfolding empty
    new_number k h =
        grown_head k 2 (omega arith) ∙ base_low k 2 h (omega arith) ∙ put2_off 0 _ _ 2 (λ z. omega arith) (λ z. omega arith) ∙ put_here 2 (number k) _

    pub fib_kept : (w : ℕ) → 8 ≤ w → (w < 60) ⊎ (w ≡ 256) → grown π v f r dat home w ≡ v f w
    fib_kept w l s =
        grown_off home w (λ z. omega arith) (λ z. omega arith) (λ z. omega arith) (λ z. omega arith)
        ∙ body_home w (λ z. omega (arith, less s)) (omega (arith, less s))
        ∙ ended_off w _ (λ z. omega (arith, less s)) (λ z. omega (arith, less s)) (λ z. omega (arith, less s))
        ∙ entered_off home w (v f) (λ i _ g. off i g s)
      where
        less : (w < 60) ⊎ (w ≡ 256) → w < 257
        less (inl a) = omega arith
        less (inr a) = omega arith

        off : (i : ℕ) → holds π v f r dat i home ≡ true → (w < 60) ⊎ (w ≡ 256) → (w ≢ slot (over r i)) × (w ≢ slot (over r i) + 1)
        off i g s = at s
          where
            less' : i < needs π v f r
            less' = leb-true (suc i) (needs π v f r) (both_left _ _ g)

            b : (60 ≤ slot (over r i)) × (slot (over r i) ≤ 254)
            b = slot_fib (over r i) (new_not_home π v f r ok i less') (over_up r i ∙ eqb-true (over r (suc i)) home (both_right _ _ g))

            at : (w < 60) ⊎ (w ≡ 256) → (w ≢ slot (over r i)) × (w ≢ slot (over r i) + 1)
            at (inl a) = ((λ z. omega (arith, b.0)), (λ z. omega (arith, b.0)))
            at (inr a) = ((λ z. omega (arith, b.1)), (λ z. omega (arith, b.1)))
