-- One pass over the blocks: what a block's standing says, the pass so far, and what its end gives. Assumes nothing.
use Rattle.std.specs.Prelude.{Option, Some, None, Ok, Err}
use mathlib.Core.Path.{◌≡◌, refl, sym, ap, ◌∙◌}
use mathlib.Core.Bool.{Bool, true, false, true≢false}
use Prim.Native.Nat.{ℕ, suc, ◌+◌, ◌-◌, ◌*◌, ◌≤◌}
use native.Mathlib.Omega.{arith}
use Rattle.base.specs.Tests.{pick, both, all, count}
use Rattle.base.specs.Laws.{both_left, both_right, both_of, all_at}
use Rattle.base.specs.Sums.{sum, count_both}
use Rattle.image.specs.View.{View}
use Rattle.volume.specs.Files.{block_at, candidate, well_formed, linked, is_file, len, size, file_test, owned, free_sound, sound}
use Rattle.volume.specs.declared.Partition.{Partition}
use Rattle.volume.specs.Answers.{lowest_malformed, Unmarred, check_in, tallied}
use Rattle.volume.proofs.Index.{wf_of}
use Rattle.volume.specs.Closed.{size_of}
use Rattle.volume.proofs.Closed.{nearest_in, size_closed}
use Rattle.frame.specs.Needed.{needs, needed, owned_needed}
use Rattle.frame.specs.Sound.{tested}
use Rattle.volume.proofs.Steps.{both_no}
use Rattle.base.specs.declared.Refusal.TheVariants.{Unsound}
use Rattle.verify.specs.Walks.{free_at}
use Rattle.verify.specs.Survey.{file_at, size_at, standing, survey, fault}
use Rattle.volume.proofs.Frame.{of_clean}

-- a standing, by its test, and back
abbrev told : Bool → ℕ → Option ℕ
told w n = pick w (Some n) None

told_faulty : (w : Bool) (n : ℕ) → told w n ≡ None → w ≡ false
told_faulty false n q = refl
told_faulty true n q = let z : ◌≡◌ {A = ℕ} 0 1 = cc in absurd (omega arith)

told_file : (w : Bool) (n k : ℕ) → told w n ≡ Some k → (w ≡ true) × (k ≡ n)
told_file true n k q = let z : n ≡ k = cc in (refl, sym z)
told_file false n k q = let z : ◌≡◌ {A = ℕ} 0 1 = cc in absurd (omega arith)

module _ (π : Partition) (v : View) where
  module _ (f : ℕ) where
    pub stands_faulty : both (well_formed π v f) (linked π v f) ≡ false → None ≡ standing π v f
    unfolding standing
    stands_faulty w = sym (rw (w, standing))

    pub stands_file : {n m : ℕ} → well_formed π v f ≡ true → linked π v f ≡ true → n ≡ len v f → m ≡ size_of n → Some m ≡ standing π v f
    unfolding standing
    stands_file w l hn hm = sym (rw (both_of w l, hm ∙ ap size_of hn ∙ sym (size_closed π v f w), standing))

  -- a file's size
  size_few : (f : ℕ) → well_formed π v f ≡ true → size π v f ≤ 33059
  size_few f w = omega (arith, size_closed π v f w, (wf_of π v f w).short, (nearest_in (len v f)).0)

  -- the pass before block f, which is block i of s+1..e or the one behind them
  pub record Passed (f files owned : ℕ) : Type 0 where
    pub i : ℕ
    pub here : f ≡ block_at π i
    pub good : all i (file_test π v) ≡ true
    pub many : files ≡ count i (file_at π v)
    pub few : files ≤ i
    pub blocks : owned ≡ sum i (size_at π v)
    pub short : owned ≤ 33059 * i

  pub pass_starts : Passed (π.s + 1) 0 0
  unfolding all count sum
  pass_starts = record { i = 0; here = omega arith; good = refl; many = refl; few = omega arith; blocks = refl; short = omega arith }

  -- the block's tests: no candidate, or by how it stands
  module _ {f files owned : ℕ} (p : Passed f files owned) where
    abbrev b : ℕ
    b = block_at π p.i

    pub pass_other : candidate π v f ≡ false → Passed (f + 1) files owned
    unfolding all count sum is_file both needs
    pass_other q =
        let c : candidate π v b ≡ false = rw p.here at q in
        record {
          i = suc p.i;
          here = omega (arith, p.here);
          good = rw c p.good;
          many = rw c (omega (arith, p.many));
          few = omega (arith, p.few);
          blocks = rw c (omega (arith, p.blocks));
          short = omega (arith, p.short);
        }

    module _ (hc : candidate π v f ≡ true) {x : Option ℕ} (hx : x ≡ standing π v f) where
      abbrev form : Bool
      form = both (well_formed π v b) (linked π v b)

      c : candidate π v b ≡ true
      c = rw p.here at hc

      at_i : x ≡ told form (size π v b)
      unfolding standing
      at_i = hx ∙ ap (standing π v) p.here

      pub pass_file : (n : ℕ) → x ≡ Some n → Passed (f + 1) (files + 1) (owned + n)
      unfolding all count sum is_file both needs
      pass_file n q =
          let t = told_file form (size π v b) n (sym at_i ∙ q) in
          let w : well_formed π v b ≡ true = both_left (well_formed π v b) (linked π v b) t.0 in
          let l : linked π v b ≡ true = both_right (well_formed π v b) (linked π v b) t.0 in
          record {
            i = suc p.i;
            here = omega (arith, p.here);
            good = rw (c, w, l) p.good;
            many = rw (c, w) (omega (arith, p.many));
            few = omega (arith, p.few);
            blocks = rw (c, w) (omega (arith, p.blocks, t.1));
            short = omega (arith, p.short, t.1, size_few b w);
          }

      pub file_short : (n : ℕ) → x ≡ Some n → n ≤ 33059
      file_short n q =
          let t = told_file form (size π v b) n (sym at_i ∙ q) in
          omega (arith, t.1, size_few b (both_left (well_formed π v b) (linked π v b) t.0))

      test_faulty : x ≡ None → file_test π v p.i ≡ false
      test_faulty q = rw (c, told_faulty form (size π v b) (sym at_i ∙ q))

      pub pass_faulty : x ≡ None → f ≤ π.e → None ≡ survey π v
      unfolding survey
      pass_faulty q l = sym (rw (go (all (π.e - π.s) (file_test π v)) refl, survey))
        where
          go : (t : Bool) → all (π.e - π.s) (file_test π v) ≡ t → t ≡ false
          go false z = refl
          go true z = absurd (true≢false (sym (all_at (π.e - π.s) (file_test π v) z p.i (omega (arith, l, p.here))) ∙ test_faulty q))

    pub pass_ends : f ≡ π.e + 1 → Some (files, owned) ≡ survey π v
    unfolding survey
    pass_ends q = let m : p.i ≡ π.e - π.s = omega (arith, q, p.here) in sym (rw (← m, p.good, ← p.many, ← p.blocks, survey))

  -- what the pass found, by the test of all blocks, and back
  abbrev seen : Bool → ℕ → ℕ → Option (ℕ × ℕ)
  seen t a b = pick t (Some (a, b)) None

  seen_linked : (t : Bool) (a b x y : ℕ) → seen t a b ≡ Some (x, y) → (t ≡ true) × (x ≡ a) × (y ≡ b)
  seen_linked true a b x y q =
      let p : ◌≡◌ {A = ℕ × ℕ} (a, b) (x, y) = cc in
      (refl, sym (ap (λ (r : ℕ × ℕ). r.0) p), sym (ap (λ (r : ℕ × ℕ). r.1) p))
  seen_linked false a b x y q = let z : ◌≡◌ {A = ℕ} 0 1 = cc in absurd (omega arith)

  seen_faulty : (t : Bool) (a b : ℕ) → seen t a b ≡ None → t ≡ false
  seen_faulty false a b q = refl
  seen_faulty true a b q = let z : ◌≡◌ {A = ℕ} 0 1 = cc in absurd (omega arith)

  -- every candidate a linked file, so many files, and so many blocks
  pub record Sums (files owned : ℕ) : Type 0 where
    pub good : all (π.e - π.s) (file_test π v) ≡ true
    pub many : files ≡ count (π.e - π.s) (file_at π v)
    pub blocks : owned ≡ sum (π.e - π.s) (size_at π v)

  pub linked_sums : {x : Option (ℕ × ℕ)} (files owned : ℕ) → x ≡ survey π v → x ≡ Some (files, owned) → Sums files owned
  unfolding survey
  linked_sums files owned h q = let t = seen_linked _ _ _ _ _ (sym h ∙ q) in record { good = t.0; many = t.1; blocks = t.2 }

  pub faulty_test : {x : Option (ℕ × ℕ)} → x ≡ survey π v → x ≡ None → all (π.e - π.s) (file_test π v) ≡ false
  unfolding survey
  faulty_test h q = seen_faulty _ _ _ (sym h ∙ q)

  -- no candidate is malformed where each is a linked file
  pub good_unmarred : all (π.e - π.s) (file_test π v) ≡ true → Unmarred π v
  good_unmarred h = of_clean π v (λ f c. both_left _ _ (tested π v h f c))

  pub sound_unmarred : sound π v ≡ true → Unmarred π v
  unfolding sound
  sound_unmarred h = good_unmarred (both_left _ _ h)

  -- the blocks that no file has are free
  sizes_owned : count (π.e - π.s) (λ i. owned π v (block_at π i)) ≡ sum (π.e - π.s) (size_at π v)
  unfolding needed
  sizes_owned = owned_needed π v

  pub free_rest : (owned : ℕ) → owned ≡ sum (π.e - π.s) (size_at π v) → (owned ≤ π.e - π.s) × (π.e - π.s - owned ≡ count (π.e - π.s) (free_at π v))
  free_rest n q = let a = count_both (π.e - π.s) (λ i. owned π v (block_at π i)) in let b = sizes_owned in (omega arith, omega arith)

  pub tallied_is : (files owned : ℕ) → Sums files owned → Ok (Some (files, owned, π.e - π.s - owned)) ≡ tallied π v
  unfolding tallied
  tallied_is files n p = rw ((free_rest n p.blocks).1, p.many, p.blocks, ← sizes_owned)

  -- check, by what the pass found
  sound_no : all (π.e - π.s) (file_test π v) ≡ false → sound π v ≡ false
  unfolding sound
  sound_no h = both_no _ _ h

  pub check_faulty : all (π.e - π.s) (file_test π v) ≡ false → Err (fault π v) ≡ check_in π v
  unfolding check_in
  check_faulty h = go (lowest_malformed π v) refl
    where
      go : (x : Option ℕ) → lowest_malformed π v ≡ x → Err (fault π v) ≡ check_in π v
      go (Some f) q = rw (q, check_in)
      go None q = rw (q, sound_no h, check_in)

  sound_free : all (π.e - π.s) (file_test π v) ≡ true → sound π v ≡ free_sound π v
  unfolding sound both
  sound_free h = rw (h, sound)

  pub check_sound : (files owned : ℕ) → Sums files owned → free_sound π v ≡ true → Ok (Some (files, owned, π.e - π.s - owned)) ≡ check_in π v
  unfolding check_in
  check_sound files n p h = sym (rw (good_unmarred p.good, sound_free p.good ∙ h, check_in) (sym (tallied_is files n p)))

  pub check_unsound : (files owned : ℕ) → Sums files owned → free_sound π v ≡ false → Err Unsound ≡ check_in π v
  unfolding check_in
  check_unsound files n p h = sym (rw (good_unmarred p.good, sound_free p.good ∙ h, check_in))

  pub sound_faulty : all (π.e - π.s) (file_test π v) ≡ false → false ≡ sound π v
  sound_faulty h = sym (sound_no h)

  pub sound_linked : {r : Bool} → all (π.e - π.s) (file_test π v) ≡ true → r ≡ free_sound π v → r ≡ sound π v
  sound_linked h q = q ∙ sym (sound_free h)
