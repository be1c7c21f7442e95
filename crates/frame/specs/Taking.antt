-- The blocks that a write takes are the first of the free chain: unowned, and each another.
use Rattle.std.specs.Prelude.{◌≡◌, ◌≢◌, List, [], ◌∷◌, ◌++◌, true, false, length}
use Rattle.std.proofs.Math.Path.{refl, ap}
use Rattle.std.proofs.Common.{sym, ◌∙◌, subst, arith}
use Prim.Native.Nat.{ℕ, zero, suc, ◌+◌, ◌≤◌, ◌<◌}
use Rattle.base.specs.Tests.{occ}
use Rattle.image.specs.View.{View}
use Rattle.volume.specs.Files.{inside, owned, free, free_head, sound}
use Rattle.volume.specs.declared.Partition.{Partition}
use Rattle.frame.specs.Sound.{occ_here, occ_more, after₁, firsts, free_starts, free_in, free_not, free_once}
use Rattle.volume.specs.Plans.{free_at}

pub occ_append : (x : ℕ) (l m : List ℕ) → occ x (l ++ m) ≡ occ x l + occ x m
unfolding occ
occ_append x [] m = omega arith
occ_append x (y ∷ l) m = omega (arith, occ_append x l m)

module _ (π : Partition) (v : View) where
  -- the block i links on from b
  abbrev pub from : ℕ → ℕ → ℕ
  from b zero = b
  from b (suc i) = after₁ π v (from b i)

  pub from_next : (b i : ℕ) → from (after₁ π v b) i ≡ from b (suc i)
  from_next b zero = refl
  from_next b (suc i) = ap (after₁ π v) (from_next b i)

  pub free_from : (i : ℕ) → free_at π v i ≡ from (free_head π v) i
  unfolding free_at
  free_from zero = refl
  free_from (suc i) = ap (after₁ π v) (free_from i)

  pub occ_from : (n b i : ℕ) → i < n → 0 < occ (from b i) (firsts π v n b)
  occ_from zero b i l = absurd (omega arith)
  occ_from (suc n) b zero l = omega (arith, occ_here b (firsts π v n (after₁ π v b)))
  occ_from (suc n) b (suc i) l =
      let h = subst (λ (x : ℕ). 0 < occ x (firsts π v n (after₁ π v b))) (from_next b i) (occ_from n (after₁ π v b) i (omega arith)) in
      omega (arith, h, occ_more (from b (suc i)) b (firsts π v n (after₁ π v b)))

  occ_twice : (n b i j : ℕ) → i < j → j < n → from b i ≡ from b j → 1 < occ (from b i) (firsts π v n b)
  occ_twice zero b i j l m q = absurd (omega arith)
  occ_twice (suc n) b zero zero l m q = absurd (omega arith)
  occ_twice (suc n) b zero (suc j) l m q =
      let h = subst (λ (x : ℕ). 0 < occ x (firsts π v n (after₁ π v b))) (from_next b j ∙ sym q) (occ_from n (after₁ π v b) j (omega arith)) in
      omega (arith, h, occ_here b (firsts π v n (after₁ π v b)))
  occ_twice (suc n) b (suc i) zero l m q = absurd (omega arith)
  occ_twice (suc n) b (suc i) (suc j) l m q =
      let h = subst (λ (x : ℕ). 1 < occ x (firsts π v n (after₁ π v b))) (from_next b i) (occ_twice n (after₁ π v b) i j (omega arith) (omega arith) (from_next b i ∙ q ∙ sym (from_next b j))) in
      omega (arith, h, occ_more (from b (suc i)) b (firsts π v n (after₁ π v b)))

  module _ (ok : sound π v ≡ true) (n : ℕ) (some : n ≤ length (free π v)) where
    first_free : (i : ℕ) → i < n → 0 < occ (free_at π v i) (free π v)
    first_free i l =
        let s = free_starts π v ok n some in
        let h = occ_from n (free_head π v) i l in
        subst (λ (x : ℕ). 0 < occ x (free π v)) (sym (free_from i))
        (omega (arith, h, ap (occ (from (free_head π v) i)) s.is, occ_append (from (free_head π v) i) (firsts π v n (free_head π v)) s.rest))

    pub taken : (i : ℕ) → i < n → (inside π (free_at π v i) ≡ true) × (owned π v (free_at π v i) ≡ false)
    taken i l = (free_in π v ok _ (first_free i l), free_not π v ok _ (first_free i l))

    pub differ : (i j : ℕ) → i < j → j < n → free_at π v i ≢ free_at π v j
    differ i j l m q =
        let s = free_starts π v ok n some in
        let h = occ_twice n (free_head π v) i j l m (sym (free_from i) ∙ q ∙ free_from j) in
        omega (
          arith,
          h,
          ap (occ (from (free_head π v) i)) s.is,
          occ_append (from (free_head π v) i) (firsts π v n (free_head π v)) s.rest,
          free_once π v ok (from (free_head π v) i) (subst (λ (x : ℕ). 0 < occ x (free π v)) (free_from i) (first_free i (omega arith))),
        )
