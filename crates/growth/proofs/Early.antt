-- The keys that a write stores before the FIB's, in order, will do; each stands there once, and they are seven at most.
use Rattle.std.specs.Prelude.{◌≡◌, refl, ◌⊎◌, ◌≢◌, Bool, false, ◌||◌, leb, ltb, eqb}
use Rattle.std.proofs.Common.{sym, ap, ◌∙◌, subst, inl, inr, true≢false, arith, ltb-true, ltb-false, eqb-true, le-leb}
use mathlib.Core.List.{List, [], ◌∷◌, ◌++◌}
use Rattle.std.proofs.Math.Bool.{true}
use Prim.Native.Nat.{ℕ, zero, suc, ◌≤◌, ◌<◌}
use Rattle.std.proofs.Math.ListN.{length}
use Rattle.std.proofs.lemmas.Bool.{eqb-false}
use Rattle.base.specs.Tests.{pick}
use Rattle.image.specs.View.{View, Rec}
use Rattle.volume.specs.Keys.{home}
use Rattle.volume.proofs.KeyLaws.{first_pointer, up_most}
use Rattle.volume.specs.Files.{end, present, above, below, least}
use Rattle.volume.specs.declared.Partition.{Partition}
use Rattle.volume.proofs.Index.{present_home, wf_of}
use Rattle.volume.proofs.Order.{least_present}
use Rattle.volume.specs.Writes.{over, inner, needs, is_new, present', above', below', early}
use Rattle.growth.specs.Ready.{Ready}
use Rattle.growth.specs.Path.{over_zero, over_up, over_top, over_far, by_needs, needs_some, needs_few, held_on, placed, new_at, new_not_home}
use Rattle.growth.specs.Lists.{All, mem, Distinct, all_pick, all_map, mem_left, mem_right, mem_here, mem_later, mem_pick}
use Rattle.growth.specs.Afterwards.{present_new, present_old, present_split}
use Rattle.growth.specs.Neighbours.{above'_is, below'_is, last_new, first_old, double_high, double_below, double_above, least_under, above_kept, below_kept}
use Rattle.growth.specs.Before.{Early, Order}

-- ---- keys but for the FIB's

pub all_inner : (P : ℕ → Type 0) (ks : List ℕ) → All (λ k. k ≢ home → P k) ks → All P (inner ks)
unfolding inner
all_inner P [] h = tt
all_inner P (k ∷ ks) h = all_pick P (eqb k home) (inner ks) (k ∷ inner ks) (λ _. all_inner P ks h.1) (λ q. (h.0 (eqb-false k home q), all_inner P ks h.1))

pub mem_inner : (k : ℕ) → k ≢ home → (ks : List ℕ) → mem k ks ≡ true → mem k (inner ks) ≡ true
unfolding inner mem
mem_inner k n [] h = h
mem_inner k n (x ∷ xs) h = go (eqb k x) refl h (eqb x home) refl (mem_inner k n xs)
  where
    go : (t : Bool) → eqb k x ≡ t → (t || mem k xs) ≡ true → (u : Bool) → eqb x home ≡ u → (mem k xs ≡ true → mem k (inner xs) ≡ true) → mem k (pick u (inner xs) (x ∷ inner xs)) ≡ true
    go true q h true z ih = absurd (n (eqb-true k x q ∙ eqb-true x home z))
    go true q h false z ih = ap (λ (t : Bool). t || mem k (inner xs)) q
    go false q h true z ih = ih h
    go false q h false z ih = mem_later k x (inner xs) (ih h)

-- each once, but for the FIB's
abbrev Apart : List ℕ → Type 0
Apart [] = Unit {0}
Apart (x ∷ xs) = (x ≢ home → All (λ y. y ≢ home → x ≢ y) xs) × Apart xs

distinct_inner : (ks : List ℕ) → Apart ks → Distinct (inner ks)
unfolding inner
distinct_inner [] h = tt
distinct_inner (k ∷ ks) h = go (eqb k home) refl (distinct_inner ks h.1)
  where
    go : (t : Bool) → eqb k home ≡ t → Distinct (inner ks) → Distinct (pick t (inner ks) (k ∷ inner ks))
    go true q d = d
    go false q d = (all_inner (λ y. k ≢ y) ks (h.0 (eqb-false k home q)), d)

inner_length : (ks : List ℕ) → length (inner ks) ≤ length ks
unfolding inner
inner_length [] = omega arith
inner_length (k ∷ ks) = go (eqb k home) (inner_length ks)
  where
    go : (t : Bool) → length (inner ks) ≤ length ks → length (pick t (inner ks) (k ∷ inner ks)) ≤ length (k ∷ ks)
    go true h = omega arith
    go false h = omega arith

-- the keys behind block r's are apart by their link order, where two blocks are new and where three are: a and b over block r, c and d
-- beside b, e the old last block and g the old first one
apart_two : (a b e g : ℕ) → a < g → g ≤ home → (b ≢ home → g < b) → b ≤ home → home ≤ e → Apart (a ∷ b ∷ e ∷ g ∷ [])
apart_two a b e g ag gh gb bh he = (
  (λ n. ((λ m z. omega (arith, gb m)), ((λ m z. omega arith), ((λ m z. omega arith), tt)))),
  ((λ n. ((λ m z. omega (arith, n)), ((λ m z. omega (arith, gb n)), tt))), ((λ n. ((λ m z. omega (arith, n)), tt)), ((λ n. tt), tt))),
)

apart_three : (a b c d e g : ℕ) → a < g → g < c → c < b → b < d → d ≤ home → home ≤ e → Apart (a ∷ b ∷ c ∷ d ∷ e ∷ g ∷ [])
apart_three a b c d e g ag gc cb bd dh he = (
  (λ n. ((λ m z. omega arith), ((λ m z. omega arith), ((λ m z. omega arith), ((λ m z. omega arith), ((λ m z. omega arith), tt)))))),
  (
    (λ n. ((λ m z. omega arith), ((λ m z. omega arith), ((λ m z. omega arith), ((λ m z. omega arith), tt))))),
    (
      (λ n. ((λ m z. omega arith), ((λ m z. omega arith), ((λ m z. omega arith), tt)))),
      ((λ n. ((λ m z. omega (arith, n)), ((λ m z. omega arith), tt))), ((λ n. ((λ m z. omega arith), tt)), ((λ n. tt), tt))),
    ),
  ),
)

module _ (π : Partition) (v : View) (f r : ℕ) where
  -- the keys behind block r's, where n blocks are new
  abbrev double : ℕ → List ℕ
  double n = pick (leb 2 n) (over r 2 ∷ []) []

  abbrev beside : ℕ → List ℕ
  beside n = pick (leb 3 n) (below' π v f r (over r 2) ∷ above' π v f r (over r 2) ∷ []) []

  abbrev old_first : ℕ → List ℕ
  old_first n = pick (leb 2 n) (least π v f ∷ []) []

  abbrev others : ℕ → List ℕ
  others n = over r 1 ∷ double n ++ beside n ++ end v f ∷ old_first n

  pub early_few : length (early π v f r) ≤ 7
  unfolding early
  early_few = by_needs π v f r (λ n. length (over r 0 ∷ inner (others n)) ≤ 7) (λ _. omega (arith, inner_length (others 1))) (λ _. omega (arith, inner_length (others 2))) (λ _. omega (arith, inner_length (others 3)))

  module _ (ok : Ready π v f r) where
    last_there : present π v f (end v f) ≡ true
    last_there = (wf_of π v f ok.file.formed).ends

    least_there : present π v f (least π v f) ≡ true
    least_there = (least_present π v f ok.file.formed).1

    -- ---- in link order

    least_low : least π v f ≤ home
    least_low = least_under π v f r ok.file home (present_home π v f)

    -- where -2 or -3 stands over block r, the file has -5
    least_far : over r 2 ≢ home → least π v f < 288
    least_far n = omega (arith, least_under π v f r ok.file 287 ((wf_of π v f ok.file.formed).full 287 (omega (arith, first_pointer 287 (omega arith), over_far r n, ok.file.next))))

    over_most : (i : ℕ) → over r (suc i) ≤ home
    over_most i = subst (λ (k : ℕ). k ≤ home) (over_up r i) (up_most (over r i))

    module _ (three : 2 < needs π v f r) where
      double_inner : over r 2 < home
      double_inner = omega (arith, over_most 1, new_not_home π v f r ok.file 2 three)

      below_there : present' π v f r (below' π v f r (over r 2)) ≡ true
      below_there = ((below'_is π v f r ok.file (over r 2)).hit (λ z. omega (arith, z, double_below π v f r ok.file three))).0

      above_there : present' π v f r (above' π v f r (over r 2)) ≡ true
      above_there = ((above'_is π v f r ok.file (over r 2)).hit (λ z. omega (arith, z, double_above π v f r ok.file three))).0

    -- ---- each once

    pub early_once : Distinct (early π v f r)
    unfolding early
    early_once = (all_inner (λ y. over r 0 ≢ y) (others (needs π v f r)) (all_map (λ k. k < over r 0) _ (λ k l _ z. omega arith) (others (needs π v f r)) below_r), distinct_inner (others (needs π v f r)) apart)
      where
        path : (i : ℕ) → over r (suc i) < over r 0
        path i = omega (arith, over_most i, over_zero r)

        last : end v f < over r 0
        last = last_new π v f r ok.file (end v f) last_there

        first : least π v f < over r 0
        first = last_new π v f r ok.file (least π v f) least_there

        below_r : All (λ k. k < over r 0) (others (needs π v f r))
        below_r = by_needs π v f r (λ n. All (λ k. k < over r 0) (others n))
            (λ _. (path 0, (last, tt)))
            (λ _. (path 0, (path 1, (last, (first, tt)))))
            (λ n. let l : 2 < needs π v f r = omega arith in
            (path 0, (path 1, (omega (arith, double_below π v f r ok.file l, over_zero r), (omega (arith, double_above π v f r ok.file l, double_inner l, over_zero r), (last, (first, tt)))))))

        apart : Apart (others (needs π v f r))
        apart = by_needs π v f r (λ n. Apart (others n))
            (λ _. ((λ n. ((λ m z. omega (arith, over_most 0, m)), tt)), ((λ n. tt), tt)))
            (λ n. apart_two (over r 1) (over r 2) (end v f) (least π v f) (first_old π v f r ok.file (omega arith) _ least_there) least_low
            (λ m. omega (arith, least_far m, double_high π v f r ok.file)) (over_most 1) (omega arith))
            (λ n. let l : 2 < needs π v f r = omega arith in
            let b = double_below π v f r ok.file l in
            let a = double_above π v f r ok.file l in
            apart_three (over r 1) (over r 2) _ _ (end v f) (least π v f) (first_old π v f r ok.file (omega arith) _ least_there)
            (omega (arith, least_far (new_not_home π v f r ok.file 2 l))) (omega (arith, double_high π v f r ok.file)) (omega arith) (omega (arith, double_inner l)) (omega arith))

    -- ---- they will do

    module _ (dat : Rec) where
      early_of : (k : ℕ) → present' π v f r k ≡ true → k ≢ home → Early π v f r dat ok k
      early_of k p n = go (present_split π v f r k p)
        where
          go : (is_new π v f r k ≡ true) ⊎ (present π v f k ≡ true) → Early π v f r dat ok k
          go (inl h) = inl h
          go (inr h) = inr (h, n)

      -- a key over block r is new, or present
      path_there : (i : ℕ) → present' π v f r (over r i) ≡ true
      path_there i = go (ltb i (needs π v f r)) refl
        where
          go : (t : Bool) → ltb i (needs π v f r) ≡ t → present' π v f r (over r i) ≡ true
          go true q = present_new π v f r (over r i) (new_at π v f r ok.file i (ltb-true _ _ q))
          go false q = present_old π v f r (over r i) (held_on π v f r i (ltb-false i (needs π v f r) q))

      all_early : All (Early π v f r dat ok) (early π v f r)
      unfolding early
      all_early = (inl (new_at π v f r ok.file 0 (needs_some π v f r)), all_inner (Early π v f r dat ok) (others (needs π v f r)) (all_map _ _ early_of (others (needs π v f r)) there))
        where
          last : present' π v f r (end v f) ≡ true
          last = present_old π v f r (end v f) last_there

          first : present' π v f r (least π v f) ≡ true
          first = present_old π v f r (least π v f) least_there

          there : All (λ k. present' π v f r k ≡ true) (others (needs π v f r))
          there = by_needs π v f r (λ n. All (λ k. present' π v f r k ≡ true) (others n))
              (λ _. (path_there 1, (last, tt)))
              (λ _. (path_there 1, (path_there 2, (last, (first, tt)))))
              (λ n. let l : 2 < needs π v f r = omega arith in (path_there 1, (path_there 2, (below_there l, (above_there l, (last, (first, tt)))))))

      -- one of the others stands there
      other_has : (k : ℕ) → k ≢ home → mem k (others (needs π v f r)) ≡ true → mem k (early π v f r) ≡ true
      unfolding early
      other_has k n h = mem_later k (over r 0) (inner (others (needs π v f r))) (mem_inner k n (others (needs π v f r)) h)

      -- the keys over block r up to the one that gains an entry, but for the FIB's
      path_has : (i : ℕ) → i ≤ needs π v f r → over r i ≢ home → mem (over r i) (early π v f r) ≡ true
      unfolding early
      path_has zero l n = mem_here (over r 0) (inner (others (needs π v f r)))
      path_has (suc zero) l n = other_has (over r 1) n (mem_left _ _ _ (mem_left _ _ _ (mem_here (over r 1) (double (needs π v f r)))))
      path_has (suc (suc zero)) l n = other_has (over r 2) n (mem_left _ _ _ (mem_left _ _ _ (mem_later _ (over r 1) _ (mem_pick _ _ _ [] (le-leb 2 (needs π v f r) l) (mem_here (over r 2) [])))))
      path_has (suc (suc (suc zero))) l n = absurd (n (over_top r))
      path_has (suc (suc (suc (suc i)))) l n = absurd (omega (arith, needs_few π v f r))

      news : (k : ℕ) → is_new π v f r k ≡ true → mem k (early π v f r) ≡ true
      news k h =
          let p = placed π v f r ok.file k h in
          subst (λ (j : ℕ). mem j (early π v f r) ≡ true) (sym p.is) (path_has p.i (omega (arith, p.less)) (new_not_home π v f r ok.file p.i p.less))

      -- the neighbours of new keys
      beside_has : (k : ℕ) → 2 < needs π v f r → mem k (below' π v f r (over r 2) ∷ above' π v f r (over r 2) ∷ []) ≡ true → mem k (others (needs π v f r)) ≡ true
      beside_has k l h = mem_left _ _ _ (mem_right k (over r 1 ∷ double (needs π v f r)) _ (mem_pick k _ _ [] (le-leb 3 (needs π v f r) l) h))

      behind_has : (k : ℕ) → mem k (end v f ∷ old_first (needs π v f r)) ≡ true → mem k (others (needs π v f r)) ≡ true
      behind_has k h = mem_right k (over r 1 ∷ double (needs π v f r) ++ beside (needs π v f r)) _ h

      near : (k : ℕ) → present π v f k ≡ true → k ≢ home → mem k (early π v f r) ≡ false → (above' π v f r k ≡ above π v f k) × (below' π v f r k ≡ below π v f k)
      near k p n out = (
        above_kept π v f r ok.file k p (λ z. no z (behind_has _ (mem_here _ _))) (λ l z. no z (beside_has _ l (mem_here _ _))),
        below_kept π v f r ok.file k p (λ l z. no z (behind_has _ (mem_later _ _ _ (mem_pick _ _ _ [] (le-leb 2 (needs π v f r) l) (mem_here _ _))))) (λ l z. no z (beside_has _ l (mem_later _ _ _ (mem_here _ _)))),
      )
        where
          no : {j : ℕ} → k ≡ j → mem j (others (needs π v f r)) ≡ true → ⊥
          no z h = true≢false (sym (other_has k n (ap (λ (x : ℕ). mem x (others (needs π v f r))) z ∙ h)) ∙ out)

      pub early_order : Order π v f r dat ok (early π v f r)
      early_order = record { early = all_early; news = news; gain = path_has (needs π v f r) (omega arith); near = near }
