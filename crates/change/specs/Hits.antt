-- How often a list of stores hits a block. In a sound partition a block is free, owned, the PIB or outside, and but one of these, so the free
-- blocks and the blocks of a file that a plan stores are hit at most once.
use Rattle.std.specs.Prelude.{◌≡◌, ◌≢◌, Bool, true, false, ℕ, zero, suc, ◌+◌, ◌≤◌, ◌<◌, eqb, length}
use Rattle.std.proofs.Math.Path.{refl, ap}
use Rattle.std.proofs.Common.{sym, ◌∙◌, true≢false, arith, length-append, eqb-true, ne_eqb}
use mathlib.Core.List.{List, [], ◌∷◌, ◌++◌}
use Rattle.std.proofs.lemmas.Bool.{eqb-false}
use Rattle.base.specs.Tests.{pick, occ}
use Rattle.base.specs.Laws.{both_of}
use Rattle.image.specs.View.{View, Store, places}
use Rattle.volume.specs.Keys.{home}
use Rattle.volume.proofs.KeyLaws.{low_home}
use Rattle.volume.specs.Files.{inside, candidate, well_formed, is_file, len, end, spot, present, least, owned, sound, free}
use Rattle.volume.specs.declared.Partition.{Partition}
use Rattle.volume.proofs.Index.{Names, named_owned, one_key, owned_in, wf_of, spot_home, present_home}
use Rattle.volume.proofs.Order.{least_present}
use Rattle.volume.proofs.Closed.{least_closed}
use Rattle.volume.proofs.Readings.{inside_of}
use Rattle.volume.specs.Plans.{Plan, stores, free_at, free_tail}
use Rattle.volume.specs.Calls.{room}
use Rattle.frame.specs.Sound.{sound_clean, sound_once, free_in, free_starts, tail_free}

abbrev pub bit : Bool → ℕ
bit t = pick t 1 0

abbrev pub hit : ℕ → ℕ → ℕ
hit b x = bit (eqb b x)

abbrev pub times : ℕ → List Store → ℕ
times b ss = occ b (places ss)

pub times_append : (b : ℕ) (ss ts : List Store) → times b (ss ++ ts) ≡ times b ss + times b ts
unfolding occ
times_append b [] ts = omega arith
times_append b (x ∷ ss) ts = omega (arith, times_append b ss ts)

pub times_cons : (b : ℕ) (x : Store) (ss : List Store) → times b (x ∷ ss) ≡ hit b x.at + times b ss
unfolding occ
times_cons b x ss = refl

pub times_none : (b : ℕ) → times b [] ≡ 0
unfolding occ
times_none b = refl

pub hit_one : (b x : ℕ) → hit b x ≤ 1
hit_one b x = go (eqb b x)
  where
    go : (t : Bool) → bit t ≤ 1
    go true = omega arith
    go false = omega arith

-- the stores of a plan, part by part
pub times_plan : (b : ℕ) (p : Plan) → times b (stores p) ≡ times b p.before + (hit b p.deciding.at + times b p.rest)
unfolding stores
times_plan b p = times_append b p.before (p.deciding ∷ p.rest) ∙ ap (λ (n : ℕ). times b p.before + n) (times_cons b p.deciding p.rest)

pub length_plan : (p : Plan) → length (stores p) ≡ length p.before + suc (length p.rest)
unfolding stores
length_plan p = length-append p.before (p.deciding ∷ p.rest)

-- a part of one store or none
pub some_times : (b : ℕ) (t : Bool) (x : Store) → times b (pick t [] (x ∷ [])) ≡ pick t 0 (hit b x.at)
some_times b true x = times_none b
some_times b false x = omega (arith, times_cons b x [], times_none b)

pub some_length : (t : Bool) (x : Store) → length (pick t [] (x ∷ [])) ≤ 1
some_length true x = omega arith
some_length false x = omega arith

-- ---- a block of a sound partition is free, owned, the PIB, or outside, and but one of these

module _ (π : Partition) (v : View) (ok : sound π v ≡ true) (b : ℕ) where
  pub budget : occ b (free π v) + (bit (owned π v b) + hit b π.s) ≤ 1
  budget = go (inside π b) refl
    where
      spent : (n : ℕ) → (0 < n → ⊥) → n ≡ 0
      spent zero h = refl
      spent (suc n) h = absurd (h (omega arith))

      within : (t : Bool) → occ b (free π v) ≡ pick t 0 1 → occ b (free π v) + bit t ≡ 1
      within true q = omega arith
      within false q = omega arith

      without : (t : Bool) → owned π v b ≡ t → inside π b ≡ false → bit t ≡ 0
      without true q n = absurd (true≢false (sym (owned_in π v b q) ∙ n))
      without false q n = refl

      go : (t : Bool) → inside π b ≡ t → occ b (free π v) + (bit (owned π v b) + hit b π.s) ≤ 1
      go true i =
          let off : hit b π.s ≡ 0 = ap bit (ne_eqb b π.s (λ z. (let l = inside_of π b i in omega (arith, l.0)))) in
          omega (arith, within (owned π v b) (sound_once π v ok b i), off)
      go false i =
          let none : occ b (free π v) ≡ 0 = spent (occ b (free π v)) (λ m. true≢false (sym (free_in π v ok b m) ∙ i)) in
          omega (arith, none, without (owned π v b) refl i, hit_one b π.s)

  -- the first two free blocks, and the last
  pub free_two : 2 ≤ room π v → hit b (free_at π v 0) + hit b (free_at π v 1) ≤ occ b (free π v)
  unfolding free_at occ
  free_two n =
      let r = free_starts π v ok 2 n in
      omega (arith, ap (occ b) r.is, two (free_at π v 0) (free_at π v 1) r.rest)
    where
      two : (x y : ℕ) (l : List ℕ) → occ b (x ∷ y ∷ l) ≡ hit b x + (hit b y + occ b l)
      two x y l = refl

  pub free_last : hit b (free_tail π v) ≤ occ b (free π v)
  free_last = go (eqb b (free_tail π v)) refl
    where
      go : (t : Bool) → eqb b (free_tail π v) ≡ t → bit t ≤ occ b (free π v)
      go true q = rw (eqb-true b (free_tail π v) q) (tail_free π v ok)
      go false q = omega arith

-- ---- the blocks of a file

module _ (π : Partition) (v : View) (ok : sound π v ≡ true) (f : ℕ) (c : candidate π v f ≡ true) (b : ℕ) where
  a_file : is_file π v f ≡ true
  unfolding is_file
  a_file = both_of c (sound_clean π v ok f c)

  abbrev pub top : ℕ
  top = spot π v f (least π v f)

  abbrev pub last : ℕ
  last = spot π v f (end v f)

  formed : well_formed π v f ≡ true
  formed = sound_clean π v ok f c

  here : (k : ℕ) → present π v f k ≡ true → Names π v f k (spot π v f k)
  here k p = record { file = a_file; here = p; is = refl }

  -- a block that is hit is owned, and no two of different keys are
  one : (k : ℕ) → present π v f k ≡ true → hit b (spot π v f k) ≤ bit (owned π v b)
  one k p = go (eqb b (spot π v f k)) refl
    where
      go : (t : Bool) → eqb b (spot π v f k) ≡ t → bit t ≤ bit (owned π v b)
      go true q = rw (eqb-true b (spot π v f k) q, named_owned π v f k (spot π v f k) (here k p)) (omega arith)
      go false q = omega arith

  two : (j k : ℕ) → present π v f j ≡ true → present π v f k ≡ true → j ≢ k → hit b (spot π v f j) + hit b (spot π v f k) ≤ 1
  two j k p q n = go (eqb b (spot π v f j)) refl (eqb b (spot π v f k)) refl
    where
      go : (t : Bool) → eqb b (spot π v f j) ≡ t → (u : Bool) → eqb b (spot π v f k) ≡ u → bit t + bit u ≤ 1
      go true x true y = absurd (n (one_key π v f f j k (spot π v f k) (record { file = a_file; here = p; is = sym (eqb-true b (spot π v f j) x) ∙ eqb-true b (spot π v f k) y }) (here k q)))
      go true x false y = omega arith
      go false x true y = omega arith
      go false x false y = omega arith

  -- the first in link order where it is not the FIB, the last where it is not, and the FIB: none twice
  pub file_hits : (u w : Bool) → eqb (least π v f) home ≡ u → eqb (len v f) 0 ≡ w
      → pick u 0 (hit b top) + (pick w 0 (hit b last) + hit b f) ≤ bit (owned π v b)
  file_hits u w hu hw = go u hu w hw
    where
      fib : hit b f ≡ hit b (spot π v f home)
      fib = ap (hit b) (sym (spot_home π v f))

      p_least : present π v f (least π v f) ≡ true
      p_least = (least_present π v f formed).1

      p_last : present π v f (end v f) ≡ true
      p_last = (wf_of π v f formed).ends

      p_home : present π v f home ≡ true
      p_home = present_home π v f

      under : least π v f ≤ home
      under = omega (arith, least_closed π v f formed, low_home (len v f))

      top_fib : eqb (least π v f) home ≡ false → hit b top + hit b f ≤ 1
      top_fib q = omega (arith, fib, two (least π v f) home p_least p_home (eqb-false (least π v f) home q))

      last_fib : eqb (len v f) 0 ≡ false → hit b last + hit b f ≤ 1
      last_fib q = omega (arith, fib, two (end v f) home p_last p_home (λ z. omega (arith, eqb-false (len v f) 0 q)))

      top_last : eqb (len v f) 0 ≡ false → hit b top + hit b last ≤ 1
      top_last q = two (least π v f) (end v f) p_least p_last (λ z. omega (arith, under, eqb-false (len v f) 0 q))

      go : (u : Bool) → eqb (least π v f) home ≡ u → (w : Bool) → eqb (len v f) 0 ≡ w
          → pick u 0 (hit b top) + (pick w 0 (hit b last) + hit b f) ≤ bit (owned π v b)
      go true p true q = omega (arith, fib, one home p_home)
      go true p false q = omega (arith, fib, one home p_home, one (end v f) p_last, last_fib q)
      go false p true q = omega (arith, fib, one home p_home, one (least π v f) p_least, top_fib p)
      go false p false q = omega (arith, fib, one home p_home, one (least π v f) p_least, one (end v f) p_last, top_fib p, last_fib q, top_last q)
