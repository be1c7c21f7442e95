-- The owned blocks are what the files need: each file's blocks are its present keys, counted.
use Rattle.std.specs.Prelude.{◌≡◌, refl, Bool, eqb}
use Rattle.std.proofs.Math.Path.{sym}
use Rattle.std.proofs.Common.{ap, ◌∙◌, subst, true≢false, eqb-true, eq-eqb}
use Rattle.std.proofs.Math.Bool.{true, false}
use Prim.Native.Nat.{ℕ, suc, ◌+◌, ◌-◌, ◌≤◌, ◌<◌}
use native.Mathlib.Omega.{arith}
use Rattle.base.specs.Tests.{pick, both, count}
use Rattle.base.specs.Laws.{iff_eq, both_left, both_right, both_of, never}
use Rattle.base.specs.Sums.{sum, sum_same, count_sum, count_by, count_only, count_nil}
use Rattle.image.specs.View.{View}
use Rattle.volume.specs.Keys.{home}
use Rattle.volume.specs.Files.{block_at, candidate, well_formed, is_file, len, spot, present, file_of, key, owned, size}
use Rattle.volume.specs.declared.Partition.{Partition}
use Rattle.volume.proofs.Index.{Own, own, file_candidate, file_formed, member, member_owned, file_back, key_back, present_high}
use Rattle.volume.proofs.Order.{size_is}
use Rattle.frame.specs.Soft.{cand_in}
use Rattle.volume.proofs.Readings.{inside_of}

-- what file f needs, or 0; what all files need
unfoldable pub needs : Partition → View → ℕ → ℕ
needs π v f = pick (is_file π v f) (size π v f) 0

unfoldable pub needed : Partition → View → ℕ
needed π v = sum (π.e - π.s) (λ i. needs π v (block_at π i))

module _ (π : Partition) (v : View) where
  abbrev pub m : ℕ
  m = π.e - π.s

  -- block i of s+1..e is one of f
  abbrev of_file : ℕ → ℕ → Bool
  of_file f i = both (owned π v (block_at π i)) (eqb f (file_of π v (block_at π i)))

  own_of : (f i : ℕ) → of_file f i ≡ true → Own π v (block_at π i) f (key v (block_at π i))
  own_of f i o =
      subst (λ (x : ℕ). Own π v (block_at π i) x (key v (block_at π i))) (sym (eqb-true f (file_of π v (block_at π i)) (both_right (owned π v (block_at π i)) (eqb f (file_of π v (block_at π i))) o)))
      (own π v (block_at π i) (both_left (owned π v (block_at π i)) (eqb f (file_of π v (block_at π i))) o))

  module _ (f : ℕ) (h : is_file π v f ≡ true) where
    c : candidate π v f ≡ true
    c = file_candidate π v f h

    w : well_formed π v f ≡ true
    w = file_formed π v f h

    E : ℕ
    E = suc (home + len v f)

    -- a present key has one block, and an absent one none
    at : (j : ℕ) → present π v f j ≡ true → (i : ℕ) → both (of_file f i) (eqb (suc (0 + j)) (suc (key v (block_at π i)))) ≡ eqb (block_at π i) (spot π v f j)
    at j p i = iff_eq _ _ there back
      where
        there : both (of_file f i) (eqb (suc (0 + j)) (suc (key v (block_at π i)))) ≡ true → eqb (block_at π i) (spot π v f j) ≡ true
        there t =
            let q = eqb-true (suc (0 + j)) (suc (key v (block_at π i))) (both_right _ _ t) in
            let r : j ≡ key v (block_at π i) = omega arith in
            eq-eqb _ _ (sym (own_of f i (both_left _ _ t)).back ∙ ap (spot π v f) (sym r))

        back : eqb (block_at π i) (spot π v f j) ≡ true → both (of_file f i) (eqb (suc (0 + j)) (suc (key v (block_at π i)))) ≡ true
        back t =
            let z : block_at π i ≡ spot π v f j = eqb-true _ _ t in
            both_of (both_of (ap (owned π v) z ∙ member_owned π v f c w j p) (eq-eqb f (file_of π v (block_at π i)) (sym (ap (file_of π v) z ∙ file_back π v f c w j p))))
            (eq-eqb (suc (0 + j)) (suc (key v (block_at π i))) (let q : key v (block_at π i) ≡ j = ap (key v) z ∙ key_back π v f c w j p in omega arith))

    none : (j : ℕ) → present π v f j ≡ false → (i : ℕ) → both (of_file f i) (eqb (suc (0 + j)) (suc (key v (block_at π i)))) ≡ false
    none j p i = never _ (λ q.
        let z = eqb-true (suc (0 + j)) (suc (key v (block_at π i))) (both_right _ _ q) in
        let r : key v (block_at π i) ≡ j = omega arith in
        true≢false (sym (own_of f i (both_left _ _ q)).here ∙ ap (present π v f) r ∙ p))

    pub file_size : count m (of_file f) ≡ size π v f
    unfolding E
    file_size =
        count_by 0 E m (of_file f) (λ i. suc (key v (block_at π i))) (λ i l o. (omega arith, omega (arith, present_high π v f _ (own_of f i o).here)))
        ∙ sum_same E _ (λ j. pick (present π v f j) 1 0) (λ j _. one j (present π v f j) refl)
        ∙ sym (count_sum E (present π v f)) ∙ sym (size_is π v f E (omega arith))
      where
        one : (j : ℕ) (t : Bool) → present π v f j ≡ t → count m (λ i. both (of_file f i) (eqb (suc (0 + j)) (suc (key v (block_at π i))))) ≡ pick (present π v f j) 1 0
        one j true q =
            let b = inside_of π (spot π v f j) (member π v f c w j q).ins in
            count_only π.s m (spot π v f j) _ b.0 (omega (arith, b.0, b.1)) (λ i _. at j q i) ∙ sym (ap (λ (t : Bool). pick t 1 0) q)
        one j false q = count_nil m _ (λ i _. none j q i) ∙ sym (ap (λ (t : Bool). pick t 1 0) q)

  no_file : (f i : ℕ) → is_file π v f ≡ false → of_file f i ≡ false
  no_file f i h = never _ (λ q. true≢false (sym (own_of f i q).file ∙ h))

  pub owned_needed : count m (λ i. owned π v (block_at π i)) ≡ needed π v
  unfolding needed needs
  owned_needed = count_by π.s m m (λ i. owned π v (block_at π i)) (λ i. file_of π v (block_at π i)) keyed ∙ sum_same m _ _ (λ j _. go j (is_file π v (block_at π j)) refl)
    where
      keyed : (i : ℕ) → i < m → owned π v (block_at π i) ≡ true → (π.s < file_of π v (block_at π i)) × (file_of π v (block_at π i) ≤ π.s + m)
      keyed i l o = let b = inside_of π _ (cand_in π v _ (file_candidate π v _ (own π v (block_at π i) o).file)) in (b.0, omega (arith, b.0, b.1))

      go : (j : ℕ) (t : Bool) → is_file π v (block_at π j) ≡ t → count m (of_file (block_at π j)) ≡ pick (is_file π v (block_at π j)) (size π v (block_at π j)) 0
      go j true q = rw q (file_size (block_at π j) q)
      go j false q = rw q (count_nil m _ (λ i _. no_file (block_at π j) i q))
