-- A write of block n behind the last, by first and nearest keys: how many blocks it takes, how many the file has afterwards, and that the
-- keys of its stores are there then.
use mathlib.Core.Path.{◌≡◌, refl, sym, ap, ◌∙◌, subst}
use mathlib.Core.Logic.{inl, inr, ◌≢◌}
use mathlib.Core.Bool.{Bool, true, false}
use Prim.Native.Nat.{ℕ, suc, ◌+◌, ◌≤◌, ◌<◌}
use native.Mathlib.Omega.{arith}
use lib.Dec.{eqb}
use borrow.Author.Tests.{eqb-true, eqb-false}
use Rattle.base.specs.Laws.{never}
use Rattle.image.specs.View.{View}
use Rattle.volume.specs.Keys.{home, low, span}
use Rattle.volume.proofs.KeyLaws.{first_pointer, low_pos, span_end, up_most}
use Rattle.volume.specs.Files.{present}
use Rattle.volume.specs.declared.Partition.{Partition}
use Rattle.volume.proofs.Index.{present_home, present_low, here_of, wf_of}
use Rattle.volume.proofs.Order.{count_window, least_present}
use Rattle.volume.specs.Closed.{nearest, size_of}
use Rattle.volume.proofs.Closed.{Among, asked_closed, nearest_in, near_asked, first_key, count_keys, least_closed}
use Rattle.volume.specs.Writes.{over, needs, present', size'}
use Rattle.growth.specs.Ready.{Behind}
use Rattle.growth.specs.Path.{over_zero, over_up, over_least, over_nearest, over_far, needs_some, needs_one, needs_two, needs_three, new_at, new_not_home}
use Rattle.growth.specs.Afterwards.{present_new, present_old, home_there, len_short, range', full', present'_closed}
use Rattle.growth.specs.Neighbours.{double_high}

module _ (π : Partition) (v : View) (f n : ℕ) (at : Behind π v f n) where
  -- ---- how many blocks are new

  -- the first key of the file as it is
  first_there : present π v f (low n) ≡ true
  first_there = ap (present π v f) (ap low at.next ∙ sym (least_closed π v f at.formed)) ∙ (least_present π v f at.formed).1

  module _ (a b : ℕ) (ha : a ≡ low n) (hb : b ≡ low (n + 1)) where
    same : b ≡ over n 1
    same = hb ∙ ap low (let z : n + 1 ≡ suc n = omega arith in z) ∙ sym (over_least n)

    pub takes_one : a ≤ b → 1 ≡ needs π v f n
    takes_one l = sym (needs_one π v f n (ap (present π v f) (let z : over n 1 ≡ low n = omega (arith, same, over_least n, (range' π v f n at (low n) (present_old π v f n (low n) first_there)).0) in z) ∙ first_there))

    module _ (l : b < a) (c d : ℕ) (hc : c ≡ nearest n) (hd : d ≡ nearest (n + 1)) where
      gone : present π v f (over n 1) ≡ false
      gone = never _ (λ p. omega (arith, same, present_low π v f (over n 1) p, ap low at.next))

      two : over n 2 ≡ d
      two = over_nearest n at.far ∙ ap nearest (let z : suc n ≡ n + 1 = omega arith in z) ∙ sym hd

      pub takes_two : c ≤ d → 2 ≡ needs π v f n
      takes_two m = sym (needs_two π v f n gone (go (eqb (over n 2) home) refl))
        where
          go : (t : Bool) → eqb (over n 2) home ≡ t → present π v f (over n 2) ≡ true
          go true q = ap (present π v f) (eqb-true (over n 2) home q) ∙ present_home π v f
          go false q =
              (wf_of π v f at.formed).full (over n 2)
              (omega (arith, at.next, near_asked n (over n 2) (omega (arith, two)) (omega (arith, eqb-false (over n 2) home q, over_up n 1, up_most (over n 1)))))

      pub takes_three : d < c → 3 ≡ needs π v f n
      takes_three m = sym (needs_three π v f n gone (never _ (λ p. no (asked_closed n (over n 2) (omega (arith, at.next, (here_of π v f (over n 2) inner p).asked))))))
        where
          inner : over n 2 ≢ home
          inner z = omega (arith, z, two, hc, (nearest_in n).1)

          no : Among n (over n 2) → ⊥
          no (inl x) = omega (arith, x.1, double_high π v f n at)
          no (inr x) = omega (arith, x.0, two, hc)

  -- ---- how many blocks it has afterwards

  pub size'_closed : size' π v f n ≡ size_of (n + 1)
  unfolding size'
  size'_closed =
      count_window (present' π v f n) (low (suc n)) (span (suc n)) (292 + suc n)
      (λ i h. ((range' π v f n at i h).0, omega (arith, (range' π v f n at i h).1, span_end (suc n)))) (omega (arith, span_end (suc n)))
      ∙ count_keys (suc n) (len_short π v f n at) (present' π v f n) (present'_closed π v f n at)
      ∙ ap size_of (let z : suc n ≡ n + 1 = omega arith in z)

  -- ---- keys that are there afterwards

  pub data_there : present' π v f n (292 + n) ≡ true
  data_there = ap (present' π v f n) (sym (over_zero n)) ∙ present_new π v f n (over n 0) (new_at π v f n at 0 (needs_some π v f n))

  pub low_there : (k : ℕ) → k ≡ low (suc n) → present' π v f n k ≡ true
  low_there k h =
      ap (present' π v f n) h
      ∙ ((first_key (suc n) (len_short π v f n at) (present' π v f n) (present'_closed π v f n at)).hit (λ z. omega (arith, z, low_pos (suc n) (len_short π v f n at)))).0

  pub pointer_there : present' π v f n (over n 1) ≡ true
  pointer_there = low_there (over n 1) (over_least n)

  near_there : (k : ℕ) → over n 2 ≤ k → k ≤ home → present' π v f n k ≡ true
  near_there k a b = go (eqb k home) refl
    where
      go : (t : Bool) → eqb k home ≡ t → present' π v f n k ≡ true
      go true q = ap (present' π v f n) (eqb-true k home q) ∙ home_there π v f n
      go false q = full' π v f n at k (near_asked (suc n) k (omega (arith, over_nearest n at.far)) (omega (arith, eqb-false k home q)))

  pub double_most : over n 2 ≤ home
  double_most = subst (λ (k : ℕ). k ≤ home) (over_up n 1) (up_most (over n 1))

  pub double_there : present' π v f n (over n 2) ≡ true
  double_there = near_there (over n 2) (omega arith) double_most

  -- the neighbours of a new -2 or -3
  module _ (three : 2 < needs π v f n) where
    pub double_inner : over n 2 < home
    double_inner = omega (arith, double_most, new_not_home π v f n at 2 three)

    pub above_there : present' π v f n (suc (over n 2)) ≡ true
    above_there = near_there (suc (over n 2)) (omega arith) double_inner

    pub below_there : present' π v f n 288 ≡ true
    below_there = full' π v f n at 288 (omega (arith, first_pointer 288 (omega arith), over_far n (new_not_home π v f n at 2 three)))

  -- the first and the last key of the file as it is
  pub top_there : present' π v f n (low n) ≡ true
  top_there = present_old π v f n (low n) first_there

  pub last_there : present' π v f n (home + n) ≡ true
  last_there = present_old π v f n (home + n) (ap (λ (m : ℕ). present π v f (home + m)) at.next ∙ (wf_of π v f at.formed).ends)
