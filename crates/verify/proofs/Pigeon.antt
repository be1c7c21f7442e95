-- Occurrences: a fine list has no block twice, so as many blocks as are unowned means each of them once. Assumes nothing.
use mathlib.Core.Path.{◌≡◌, refl, sym, ap, ◌∙◌}
use mathlib.Core.List.{List, [], ◌∷◌}
use mathlib.Core.Bool.{Bool, true, false, not, true≢false}
use Prim.Native.Nat.{ℕ, suc, ◌+◌, ◌-◌, ◌≤◌, ◌<◌}
use native.Mathlib.Omega.{arith}
use lib.Dec.{eqb}
use lib.ListN.{length}
use borrow.Author.Tests.{eq-eqb, eqb-true}
use Rattle.base.specs.Tests.{pick, all, count, occ, head_of}
use Rattle.base.specs.Sums.{sum, sum_same, sum_equal, count_sum}
use Rattle.drive.specs.Address.{pda, pda_block}
use Rattle.drive.specs.Laws.{pda_back, pda_pos}
use Rattle.image.specs.View.{View}
use Rattle.base.specs.Laws.{both_of, both_left, both_right, all_of}
use Rattle.volume.specs.Files.{once_test, inside, owned, within}
use Rattle.volume.specs.declared.Partition.{Partition}
use Rattle.volume.proofs.Readings.{or_pda, all_inside}
use Rattle.frame.proofs.FreeChain.{length_sum, length_unowned}
use Rattle.verify.specs.Walks.{free_at}
use Rattle.verify.proofs.Free.{Fine, none_owned, fine_next, fine_here, fine_rest}

module _ (π : Partition) (v : View) where
  -- two fine lists from one block are equally long
  same_length : (l m : List ℕ) (p q x : ℕ) → Fine π v p (x ∷ l) → Fine π v q (x ∷ m) → length l ≡ length m
  unfolding head_of
  same_length [] [] p q x f g = refl
  same_length [] (y ∷ m) p q x f g = absurd (omega (arith, pda_pos π.drive y, sym (or_pda π y (fine_here π v x y m (fine_rest π v q x (y ∷ m) g))) ∙ sym (fine_next π v q x (y ∷ m) g) ∙ fine_next π v p x [] f))
  same_length (y ∷ l) [] p q x f g = absurd (omega (arith, pda_pos π.drive y, sym (or_pda π y (fine_here π v x y l (fine_rest π v p x (y ∷ l) f))) ∙ sym (fine_next π v p x (y ∷ l) f) ∙ fine_next π v q x [] g))
  same_length (y ∷ l) (z ∷ m) p q x f g =
      let f' = fine_rest π v p x (y ∷ l) f in
      let g' = fine_rest π v q x (z ∷ m) g in
      let a : pda π.drive y ≡ pda π.drive z = sym (or_pda π y (fine_here π v x y l f')) ∙ sym (fine_next π v p x (y ∷ l) f) ∙ fine_next π v q x (z ∷ m) g ∙ or_pda π z (fine_here π v x z m g') in
      let b : y ≡ z = sym (pda_back π.drive y) ∙ ap (pda_block π.drive) a ∙ pda_back π.drive z in
      ap suc (same_length l m x x y f' (rw b g'))

  -- the first block does not come again
  fresh : (l : List ℕ) (p q x : ℕ) (xs : List ℕ) → Fine π v p (x ∷ xs) → Fine π v q l → length l ≤ length xs → occ x l ≡ 0
  unfolding occ
  fresh [] p q x xs f g h = refl
  fresh (y ∷ l) p q x xs f g h = go (eqb x y) refl (fresh l p y x xs f (fine_rest π v q y l g) (omega arith))
    where
      go : (t : Bool) → eqb x y ≡ t → occ x l ≡ 0 → pick (eqb x y) 1 0 + occ x l ≡ 0
      go true z r = absurd (omega (arith, same_length xs l p q x f (rw (eqb-true x y z) g)))
      go false z r = rw z (omega arith)

  pub once : (l : List ℕ) (p b : ℕ) → Fine π v p l → occ b l ≤ 1
  unfolding occ
  once [] p b f = omega arith
  once (x ∷ l) p b f = go (eqb b x) refl (once l x b (fine_rest π v p x l f)) (fresh l p x x l f (fine_rest π v p x l f) (omega arith))
    where
      go : (t : Bool) → eqb b x ≡ t → occ b l ≤ 1 → occ x l ≡ 0 → pick (eqb b x) 1 0 + occ b l ≤ 1
      go true z r w = rw z (omega (arith, ap (λ (y : ℕ). occ y l) (eqb-true b x z)))
      go false z r w = rw z (omega arith)

  pub owned_none : (l : List ℕ) (b : ℕ) → none_owned π v l ≡ true → owned π v b ≡ true → occ b l ≡ 0
  unfolding occ none_owned
  owned_none [] b h o = refl
  owned_none (x ∷ l) b h o = go (eqb b x) refl (owned_none l b (both_right _ _ h) o)
    where
      go : (t : Bool) → eqb b x ≡ t → occ b l ≡ 0 → pick (eqb b x) 1 0 + occ b l ≡ 0
      go true z r = absurd (true≢false (sym (both_left _ _ h) ∙ ap not (sym (ap (owned π v) (eqb-true b x z)) ∙ o)))
      go false z r = rw z (omega arith)

  turned : (t : Bool) → pick {A = ℕ} (not t) 1 0 ≡ pick t 0 1
  turned true = refl
  turned false = refl

  free_sum : count (π.e - π.s) (free_at π v) ≡ sum (π.e - π.s) (λ i. pick (owned π v (suc (π.s + i))) 0 1)
  free_sum = count_sum (π.e - π.s) (free_at π v) ∙ sum_same (π.e - π.s) _ _ (λ i l. turned (owned π v (suc (π.s + i))))

  -- as many as are unowned: each of them once, and no owned one
  pub all_there : π.s < π.e → (l : List ℕ) → Fine π v 0 l → length l ≡ count (π.e - π.s) (free_at π v) → all (π.e - π.s) (once_test π v l) ≡ true
  all_there g l f h = all_of (π.e - π.s) (once_test π v l) (λ i m. eq-eqb _ _ (sum_equal (π.e - π.s) (λ i. occ (suc (π.s + i)) l) (λ i. pick (owned π v (suc (π.s + i))) 0 1) few (sym (length_sum π l g f.ins) ∙ h ∙ free_sum) i m))
    where
      few : (i : ℕ) → i < π.e - π.s → occ (suc (π.s + i)) l ≤ pick (owned π v (suc (π.s + i))) 0 1
      few i m = go (owned π v (suc (π.s + i))) refl
        where
          go : (t : Bool) → owned π v (suc (π.s + i)) ≡ t → occ (suc (π.s + i)) l ≤ pick (owned π v (suc (π.s + i))) 0 1
          go true o = rw (owned_none l (suc (π.s + i)) f.unowned o, o) (omega arith)
          go false o = rw o (once l 0 (suc (π.s + i)) f)

  -- and back
  there_once : (l : List ℕ) → all (π.e - π.s) (once_test π v l) ≡ true → (b : ℕ) → inside π b ≡ true → occ b l ≡ pick (owned π v b) 0 1
  there_once l h b i = eqb-true _ _ (all_inside π (λ x. eqb (occ x l) (pick (owned π v x) 0 1)) h b i)

  pub there_many : π.s < π.e → (l : List ℕ) → within π l ≡ true → all (π.e - π.s) (once_test π v l) ≡ true → length l ≡ count (π.e - π.s) (free_at π v)
  there_many g l w h = length_unowned π v l g w (there_once l h)

  none_of : (l : List ℕ) → within π l ≡ true → ((b : ℕ) → inside π b ≡ true → owned π v b ≡ true → occ b l ≡ 0) → none_owned π v l ≡ true
  unfolding occ none_owned within
  none_of [] w h = refl
  none_of (x ∷ l) w h = both_of (go (owned π v x) refl) (none_of l (both_right _ _ w) (λ b i o. less b (h b i o)))
    where
      go : (t : Bool) → owned π v x ≡ t → not (owned π v x) ≡ true
      go false o = rw o
      go true o = absurd (let q : pick (eqb x x) 1 0 + occ x l ≡ 0 = h x (both_left _ _ w) o in let z = rw (eq-eqb x x refl) at q in omega arith)

      less : (b : ℕ) → pick (eqb b x) 1 0 + occ b l ≡ 0 → occ b l ≡ 0
      less b q = omega arith

  pub there_none : (l : List ℕ) → within π l ≡ true → all (π.e - π.s) (once_test π v l) ≡ true → none_owned π v l ≡ true
  there_none l w h = none_of l w (λ b i o. there_once l h b i ∙ ap (λ (t : Bool). pick t 0 1) o)
