-- The keys over the block behind the last, up to the FIB's: which are new, and which free block each new one gets.
use Rattle.std.specs.Prelude.{◌≡◌, ◌⊎◌, ◌≢◌, Bool, ◌||◌, ltb, eqb}
use Rattle.std.proofs.Math.Path.{refl, ap, ap₂}
use Rattle.std.proofs.Common.{sym, ◌∙◌, subst, inl, inr, true≢false}
use Rattle.std.proofs.Math.Bool.{true, false}
use Prim.Native.Nat.{ℕ, zero, suc, ◌+◌, ◌-◌, ◌/◌, ◌≤◌, ◌<◌}
use native.Mathlib.Omega.{arith}
use Rattle.std.proofs.Math.Dec.{leb}
use borrow.Author.Tests.{ltb-true, ltb-false, eqb-true, eqb-false, lt-ltb, le-ltb, eq-eqb, ne_eqb, le-leb, leb-true}
use Rattle.base.specs.Tests.{pick, both}
use Rattle.base.specs.Laws.{both_left, both_right, both_of, never}
use Rattle.image.specs.View.{View}
use Rattle.volume.specs.Keys.{home, reach, up, first, low}
use Rattle.volume.proofs.KeyLaws.{level, level_few, level_zero, up_level, up_most, up_pos, up_home, first_up, first_data, row_direct, row_data, row_ptr}
use Rattle.volume.specs.Files.{len, present}
use Rattle.volume.specs.declared.Partition.{Partition}
use Rattle.volume.proofs.Index.{present_home, here_of, wf_of}
use Rattle.volume.specs.Closed.{nearest}
use Rattle.volume.specs.Plans.{free_at}
use Rattle.volume.specs.Writes.{over, needs, newly, is_new, fresh, present'}
use Rattle.growth.specs.Ready.{Behind}

pub or_left : (a b : Bool) → a ≡ true → (a || b) ≡ true
or_left a b q = ap (λ (t : Bool). t || b) q

pub or_right : (a b : Bool) → b ≡ true → (a || b) ≡ true
or_right true b q = refl
or_right false b q = q

pub or_split : (a b : Bool) → (a || b) ≡ true → (a ≡ true) ⊎ (b ≡ true)
or_split true b h = inl refl
or_split false b h = inr h

pub over_zero : (r : ℕ) → over r 0 ≡ 292 + r
unfolding over
over_zero r = refl

pub over_up : (r i : ℕ) → up (over r i) ≡ over r (suc i)
unfolding over
over_up r i = refl

pub over_data_is : (r : ℕ) → 64 ≤ r → over r 1 ≡ 288 - (r - 64) / 128
unfolding over
over_data_is r l = (row_data r l).0

-- the key over block r is the first of r + 1 blocks: the FIB's, or from block 64 on that of a pointer block
pub over_least : (r : ℕ) → over r 1 ≡ low (suc r)
unfolding over low
over_least r = go (ltb r 64) refl
  where
    at : (t : Bool) → ltb 64 (suc r) ≡ t → low (suc r) ≡ pick t (289 - (suc r + 63) / 128) home
    at t q = ap (λ (u : Bool). pick u (289 - (suc r + 63) / 128) home) q

    go : (t : Bool) → ltb r 64 ≡ t → up (292 + r) ≡ low (suc r)
    go true q = let m = ltb-true r 64 q in (row_direct r m).0 ∙ sym (at false (le-ltb 64 (suc r) (omega arith)))
    go false q = let m = ltb-false r 64 q in (row_data r m).0 ∙ sym (at true (lt-ltb 64 (suc r) (omega arith)) ∙ omega arith)

pub over_near : (r : ℕ) → over r 1 ≢ home → 64 ≤ r
unfolding over
over_near r n = go (ltb r 64) refl
  where
    go : (t : Bool) → ltb r 64 ≡ t → 64 ≤ r
    go true q = absurd (n (row_direct r (ltb-true r 64 q)).0)
    go false q = ltb-false r 64 q

level_home : level home ≡ 0
unfolding level
level_home = refl

-- each step up brings the FIB nearer, so that it is reached in three
pub over_level : (r i : ℕ) → level (over r i) ≤ 3 - i
over_level r zero = level_few (over r 0)
over_level r (suc i) = subst (λ (k : ℕ). level k ≤ 3 - suc i) (over_up r i) (go (eqb (over r i) home) refl (over_level r i))
  where
    go : (t : Bool) → eqb (over r i) home ≡ t → level (over r i) ≤ 3 - i → level (up (over r i)) ≤ 3 - suc i
    go true q h = omega (arith, ap (λ (k : ℕ). level (up k)) (eqb-true (over r i) home q) ∙ ap level up_home ∙ level_home)
    go false q h = omega (arith, h, up_level (over r i) (eqb-false (over r i) home q))

pub over_top : (r : ℕ) → over r 3 ≡ home
over_top r = level_zero (over r 3) (over_level r 3)

-- the key two steps over block r: the FIB's up to block 4,159, from there on that of -2, which leads to 16,384 blocks, or -3
pub over_two : (r : ℕ) → r < 4160 → over r 2 ≡ home
over_two r l = sym (over_up r 1) ∙ go (eqb (over r 1) home) refl
  where
    go : (t : Bool) → eqb (over r 1) home ≡ t → up (over r 1) ≡ home
    go true q = ap up (eqb-true (over r 1) home q) ∙ up_home
    go false q =
        let m = over_near r (eqb-false (over r 1) home q) in
        ap up (over_data_is r m) ∙ (row_ptr ((r - 64) / 128) (omega arith)).0

pub over_double : (r : ℕ) → 4160 ≤ r → r < reach → over r 2 ≡ 290 - (r - 4160) / 16384
unfolding up
over_double r l m =
    sym (over_up r 1) ∙ ap up (over_data_is r (omega arith)) ∙ simp (le-ltb 355 (288 - (r - 64) / 128) (omega arith), le-ltb 256 (288 - (r - 64) / 128) (omega arith))
    (let c : 256 - (288 - (r - 64) / 128) ≡ (r - 4160) / 128 = omega arith in ap (λ (x : ℕ). 290 - x / 128) c ∙ omega arith)

pub over_far : (r : ℕ) → over r 2 ≢ home → 4160 ≤ r
over_far r n = go (ltb r 4160) refl
  where
    go : (t : Bool) → ltb r 4160 ≡ t → 4160 ≤ r
    go true q = absurd (n (over_two r (ltb-true r 4160 q)))
    go false q = ltb-false r 4160 q

-- it is the one behind -4's in a file with r + 1 blocks
pub over_nearest : (r : ℕ) → r < reach → over r 2 ≡ nearest (suc r)
over_nearest r l = go (ltb 20544 (suc r)) refl (ltb 4160 (suc r)) refl
  where
    go : (t : Bool) → ltb 20544 (suc r) ≡ t → (u : Bool) → ltb 4160 (suc r) ≡ u → over r 2 ≡ pick t 289 (pick u 290 home)
    go true p u q = let m = ltb-true 20544 (suc r) p in over_double r (omega arith) l ∙ omega arith
    go false p true q = let m = ltb-true 4160 (suc r) q in over_double r (omega arith) l ∙ omega (arith, ltb-false 20544 (suc r) p)
    go false p false q = over_two r (omega (arith, ltb-false 4160 (suc r) q))

pub both_none : (t : Bool) → both t false ≡ false
unfolding both
both_none true = refl
both_none false = refl

module _ (π : Partition) (v : View) (f r : ℕ) where
  -- one, two or three blocks are new
  pub by_needs : (Q : ℕ → Type 0) → (needs π v f r ≡ 1 → Q 1) → (needs π v f r ≡ 2 → Q 2) → (needs π v f r ≡ 3 → Q 3) → Q (needs π v f r)
  unfolding needs
  by_needs Q = go (present π v f (over r 1)) (present π v f (over r 2))
    where
      go : (a b : Bool) → (pick {A = ℕ} a 1 (pick b 2 3) ≡ 1 → Q 1) → (pick {A = ℕ} a 1 (pick b 2 3) ≡ 2 → Q 2) → (pick {A = ℕ} a 1 (pick b 2 3) ≡ 3 → Q 3) → Q (pick a 1 (pick b 2 3))
      go true b x y z = x refl
      go false true x y z = y refl
      go false false x y z = z refl

  pub needs_some : 1 ≤ needs π v f r
  needs_some = by_needs (λ n. 1 ≤ n) (λ _. omega arith) (λ _. omega arith) (λ _. omega arith)

  pub needs_few : needs π v f r ≤ 3
  needs_few = by_needs (λ n. n ≤ 3) (λ _. omega arith) (λ _. omega arith) (λ _. omega arith)

  pub needs_one : present π v f (over r 1) ≡ true → needs π v f r ≡ 1
  unfolding needs
  needs_one p = ap (λ (a : Bool). pick a 1 (pick (present π v f (over r 2)) 2 3)) p

  pub needs_two : present π v f (over r 1) ≡ false → present π v f (over r 2) ≡ true → needs π v f r ≡ 2
  unfolding needs
  needs_two p q = ap₂ (λ (a b : Bool). pick a 1 (pick b 2 3)) p q

  pub needs_three : present π v f (over r 1) ≡ false → present π v f (over r 2) ≡ false → needs π v f r ≡ 3
  unfolding needs
  needs_three p q = ap₂ (λ (a b : Bool). pick a 1 (pick b 2 3)) p q

  -- a key over block r that is there is not new
  needs_most : (i : ℕ) → present π v f (over r (suc i)) ≡ true → needs π v f r ≤ suc i
  needs_most zero p = omega (arith, needs_one p)
  needs_most (suc zero) p = go (present π v f (over r 1)) refl
    where
      go : (a : Bool) → present π v f (over r 1) ≡ a → needs π v f r ≤ 2
      go true q = omega (arith, needs_one q)
      go false q = omega (arith, needs_two q p)
  needs_most (suc (suc i)) p = omega (arith, needs_few)

  -- the holder of the last new one is present, and so are all keys over it
  pub held : present π v f (over r (needs π v f r)) ≡ true
  held = go (present π v f (over r 1)) refl (present π v f (over r 2)) refl
    where
      go : (a : Bool) → present π v f (over r 1) ≡ a → (b : Bool) → present π v f (over r 2) ≡ b → present π v f (over r (needs π v f r)) ≡ true
      go true p b q = ap (λ (n : ℕ). present π v f (over r n)) (needs_one p) ∙ p
      go false p true q = ap (λ (n : ℕ). present π v f (over r n)) (needs_two p q) ∙ q
      go false p false q = ap (λ (n : ℕ). present π v f (over r n)) (needs_three p q) ∙ ap (present π v f) (over_top r) ∙ present_home π v f

  pub held_on : (i : ℕ) → needs π v f r ≤ i → present π v f (over r i) ≡ true
  held_on zero l = absurd (omega (arith, needs_some))
  held_on (suc i) l = go (eqb (needs π v f r) (suc i)) refl (held_on i)
    where
      up_too : (t : Bool) → eqb (over r i) home ≡ t → present π v f (over r i) ≡ true → present π v f (up (over r i)) ≡ true
      up_too true q p = ap (present π v f) (ap up (eqb-true (over r i) home q) ∙ up_home) ∙ present_home π v f
      up_too false q p = (here_of π v f (over r i) (eqb-false (over r i) home q) p).held

      go : (t : Bool) → eqb (needs π v f r) (suc i) ≡ t → (needs π v f r ≤ i → present π v f (over r i) ≡ true) → present π v f (over r (suc i)) ≡ true
      go true q ih = ap (λ (n : ℕ). present π v f (over r n)) (sym (eqb-true (needs π v f r) (suc i) q)) ∙ held
      go false q ih =
          ap (present π v f) (sym (over_up r i))
          ∙ up_too (eqb (over r i) home) refl (ih (omega (arith, l, eqb-false (needs π v f r) (suc i) q)))

  module _ (ok : Behind π v f r) where
    -- block r is absent
    hole : present π v f (over r 0) ≡ false
    unfolding over
    hole = never _ (λ q. omega (arith, (here_of π v f (292 + r) (λ z. omega arith) q).asked, first_data (292 + r) (omega arith), ok.next))

    -- what is new is absent, and L does not ask for it
    pub new_absent : (i : ℕ) → i < needs π v f r → present π v f (over r i) ≡ false
    new_absent zero l = hole
    new_absent (suc i) l = never _ (λ p. omega (arith, needs_most i p))

    pub new_beyond : (i : ℕ) → i < needs π v f r → len v f ≤ first (over r i)
    new_beyond i l = go (ltb (first (over r i)) (len v f)) refl
      where
        go : (t : Bool) → ltb (first (over r i)) (len v f) ≡ t → len v f ≤ first (over r i)
        go true q = absurd (true≢false (sym ((wf_of π v f ok.formed).full (over r i) (ltb-true _ _ q)) ∙ new_absent i l))
        go false q = ltb-false (first (over r i)) (len v f) q

    pub new_not_home : (i : ℕ) → i < needs π v f r → over r i ≢ home
    new_not_home i l z = true≢false (sym (present_home π v f) ∙ ap (present π v f) (sym z) ∙ new_absent i l)

    -- keys in range, each over r
    pub over_first : (i : ℕ) → i ≤ needs π v f r → first (over r i) ≤ r
    unfolding over
    over_first zero l = omega (arith, first_data (292 + r) (omega arith))
    over_first (suc i) l = omega (arith, over_first i (omega arith), first_up (over r i) (new_not_home i (omega arith)))

    -- block r is the first that a new key leads to, and of the keys over it the new ones are those of which it is
    pub new_starts : (i : ℕ) → i < needs π v f r → first (over r i) ≡ r
    new_starts i l = omega (arith, new_beyond i l, over_first i (omega arith), ok.next)

    pub starts_new : (i : ℕ) → over r i ≢ home → first (over r i) ≡ r → i < needs π v f r
    starts_new i n q = go (ltb i (needs π v f r)) refl
      where
        go : (t : Bool) → ltb i (needs π v f r) ≡ t → i < needs π v f r
        go true l = ltb-true _ _ l
        go false l = absurd (omega (arith, (here_of π v f (over r i) n (held_on i (ltb-false i (needs π v f r) l))).asked, q, ok.next))

    pub over_few : (i : ℕ) → over r i < 37220
    unfolding over
    over_few zero = omega (arith, ok.far)
    over_few (suc i) = omega (arith, up_most (over r i))

    pub over_pos : (i : ℕ) → i ≤ needs π v f r → 0 < over r i
    unfolding over
    over_pos zero l = omega arith
    over_pos (suc i) l = up_pos (over r i) (over_few i)

    -- each lies nearer to the FIB than the one before, so they differ
    over_down : (i j : ℕ) → i < j → j ≤ needs π v f r → level (over r j) < level (over r i)
    over_down i zero l m = absurd (omega arith)
    over_down i (suc j) l m = go (eqb i j) refl (λ n. over_down i j n (omega arith))
      where
        one : level (over r (suc j)) < level (over r j)
        one = subst (λ (k : ℕ). level k < level (over r j)) (over_up r j) (up_level (over r j) (new_not_home j (omega arith)))

        go : (t : Bool) → eqb i j ≡ t → (i < j → level (over r j) < level (over r i)) → level (over r (suc j)) < level (over r i)
        go true q ih = subst (λ (x : ℕ). level (over r (suc j)) < level (over r x)) (sym (eqb-true i j q)) one
        go false q ih = omega (arith, ih (omega (arith, eqb-false i j q)), one)

    pub over_one : (i j : ℕ) → i ≤ needs π v f r → j ≤ needs π v f r → over r i ≡ over r j → i ≡ j
    over_one i j a b q = go (ltb i j) refl (ltb j i) refl
      where
        go : (t : Bool) → ltb i j ≡ t → (u : Bool) → ltb j i ≡ u → i ≡ j
        go true x u y = absurd (omega (arith, over_down i j (ltb-true i j x) b, ap level q))
        go false x true y = absurd (omega (arith, over_down j i (ltb-true j i y) a, ap level q))
        go false x false y = omega (arith, ltb-false i j x, ltb-false j i y)

    -- ---- new keys, by place

    pub record Placed (k : ℕ) : Type 0 where
      pub i : ℕ
      pub less : i < needs π v f r
      pub is : k ≡ over r i

    place_at : (i k : ℕ) → newly π v f r i k ≡ true → Placed k
    place_at i k h = record { i = i; less = leb-true _ _ (both_left _ _ h); is = eqb-true _ _ (both_right _ _ h) }

    pub placed : (k : ℕ) → is_new π v f r k ≡ true → Placed k
    unfolding is_new
    placed k h = go (or_split _ _ h)
      where
        go : (newly π v f r 0 k ≡ true) ⊎ ((newly π v f r 1 k || newly π v f r 2 k) ≡ true) → Placed k
        go (inl a) = place_at 0 k a
        go (inr b) = on (or_split _ _ b)
          where
            on : (newly π v f r 1 k ≡ true) ⊎ (newly π v f r 2 k ≡ true) → Placed k
            on (inl a) = place_at 1 k a
            on (inr a) = place_at 2 k a

    here : (i : ℕ) → i < needs π v f r → newly π v f r i (over r i) ≡ true
    here i l = both_of (le-leb (suc i) (needs π v f r) l) (eq-eqb (over r i) (over r i) refl)

    away : (i j : ℕ) → i < needs π v f r → i ≢ j → newly π v f r j (over r i) ≡ false
    unfolding both
    away i j l n = go (leb (suc j) (needs π v f r)) refl
      where
        go : (t : Bool) → leb (suc j) (needs π v f r) ≡ t → both t (eqb (over r i) (over r j)) ≡ false
        go true q = ne_eqb (over r i) (over r j) (λ z. n (over_one i j (omega arith) (omega (arith, leb-true (suc j) (needs π v f r) q)) z))
        go false q = refl

    pub new_at : (i : ℕ) → i < needs π v f r → is_new π v f r (over r i) ≡ true
    unfolding is_new
    new_at zero l = or_left (newly π v f r 0 (over r 0)) (newly π v f r 1 (over r 0) || newly π v f r 2 (over r 0)) (here 0 l)
    new_at (suc zero) l =
        or_right (newly π v f r 0 (over r 1)) (newly π v f r 1 (over r 1) || newly π v f r 2 (over r 1)) (or_left (newly π v f r 1 (over r 1)) (newly π v f r 2 (over r 1)) (here 1 l))
    new_at (suc (suc zero)) l =
        or_right (newly π v f r 0 (over r 2)) (newly π v f r 1 (over r 2) || newly π v f r 2 (over r 2)) (or_right (newly π v f r 1 (over r 2)) (newly π v f r 2 (over r 2)) (here 2 l))
    new_at (suc (suc (suc i))) l = absurd (omega (arith, needs_few))

    pub fresh_at : (i : ℕ) → i < needs π v f r → fresh π v f r (over r i) ≡ free_at π v i
    unfolding fresh
    fresh_at zero l = ap (λ (t : Bool). pick t (free_at π v 0) (pick (newly π v f r 1 (over r 0)) (free_at π v 1) (free_at π v 2))) (here 0 l)
    fresh_at (suc zero) l = ap₂ (λ (t u : Bool). pick t (free_at π v 0) (pick u (free_at π v 1) (free_at π v 2))) (away 1 0 l (λ z. omega arith)) (here 1 l)
    fresh_at (suc (suc zero)) l = ap₂ (λ (t u : Bool). pick t (free_at π v 0) (pick u (free_at π v 1) (free_at π v 2))) (away 2 0 l (λ z. omega arith)) (away 2 1 l (λ z. omega arith))
    fresh_at (suc (suc (suc i))) l = absurd (omega (arith, needs_few))

    -- ---- what a new key is

    module _ (k : ℕ) (h : is_new π v f r k ≡ true) where
      p : Placed k
      p = placed k h

      pub new_gone : present π v f k ≡ false
      new_gone = ap (present π v f) p.is ∙ new_absent p.i p.less

      pub new_inner : k ≢ home
      new_inner z = true≢false (sym (present_home π v f) ∙ ap (present π v f) (sym z) ∙ new_gone)

      pub new_first_at : first k ≤ r
      new_first_at = subst (λ (x : ℕ). first x ≤ r) (sym p.is) (over_first p.i (omega (arith, p.less)))

      pub new_up : present' π v f r (up k) ≡ true
      unfolding present'
      new_up = go (ltb (suc p.i) (needs π v f r)) refl
        where
          same : up k ≡ over r (suc p.i)
          same = ap up p.is ∙ over_up r p.i

          go : (t : Bool) → ltb (suc p.i) (needs π v f r) ≡ t → (is_new π v f r (up k) || present π v f (up k)) ≡ true
          go true q = or_left (is_new π v f r (up k)) (present π v f (up k)) (ap (is_new π v f r) same ∙ new_at (suc p.i) (ltb-true _ _ q))
          go false q = or_right (is_new π v f r (up k)) (present π v f (up k)) (ap (present π v f) (same ∙ ap (over r) (let z : suc p.i ≡ needs π v f r = omega (arith, ltb-false (suc p.i) (needs π v f r) q, p.less) in z)) ∙ held)

    pub home_old : is_new π v f r home ≡ false
    home_old = never _ (λ q. new_inner home q refl)

    -- what stands at no new place is old
    pub new_not : (k : ℕ) → ((i : ℕ) → i < needs π v f r → k ≢ over r i) → is_new π v f r k ≡ false
    new_not k h = never _ (λ q. let p = placed k q in h p.i p.less p.is)
