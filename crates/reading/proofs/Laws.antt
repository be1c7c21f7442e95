-- Laws of reading into a buffer: the parts that are copied lie in the image, and a part that is put fills the buffer. Assumes nothing.
use Rattle.std.specs.Prelude.{Some, None, Result, Ok, Err}
use Rattle.base.specs.declared.Refusal.{Refusal}
use mathlib.Core.Path.{◌≡◌, refl}
use mathlib.Core.List.{List}
use mathlib.Core.Bool.{Bool, true, false}
use Prim.Native.Nat.{ℕ, ◌+◌, ◌-◌, ◌*◌, ◌≤◌}
use native.Mathlib.Omega.{arith}
use lib.Dec.{eqb}
use lib.ListN.{length, take, drop, length-drop}
use lib.Seq.{length-take-le}
use borrow.Author.Tests.{eqb-true}
use Rattle.image.proofs.Laws.{span}
use Rattle.image.specs.Image.{view}
use Rattle.volume.specs.Files.{partition_of, candidate}
use Rattle.volume.specs.Answers.{partition, read_from, described_as}
use Rattle.volume.proofs.Readings.{lies, candidate_in}
use Rattle.inspect.proofs.Laws.{shown_at}

-- ---- parts

-- a part that lies in the list is as long as it says
pub part_long : (l : List ℕ) (at n : ℕ) → at + n ≤ length l → length (take (at + n - at) (drop at l)) ≡ n
part_long l at n h = rw span (length-take-le n (drop at l) (rw length-drop (omega arith)))

-- ---- read and the description

module _ (d : ℕ) (l : List ℕ) (s f r n : ℕ) where
  pub read_done : (x : ℕ × ℕ × ℕ) → read_from d l s f r n ≡ Ok (Some x) → (x.0 + 512 ≤ length l) × (n ≡ 512)
  unfolding read_from
  read_done x h = go (partition d l s) refl (eqb n 512) refl
    where
      go : (q : Result ℕ Refusal) → partition d l s ≡ q → (t : Bool) → eqb n 512 ≡ t → (x.0 + 512 ≤ length l) × (n ≡ 512)
      go (Err y) j t i = let k = rw (j, read_from) at h in let z : ◌≡◌ {A = ℕ} 0 1 = cc in absurd (omega arith)
      go (Ok e) j false i = let k = rw (j, read_from, i) at h in let z : ◌≡◌ {A = ℕ} 0 1 = cc in absurd (omega arith)
      go (Ok e) j true i = let k = rw (j, read_from, i) at h in (shown_at (partition_of d s e) l f r x (lies d l s e j) k, eqb-true n 512 i)

  pub read_absent : read_from d l s f r n ≡ Ok None → n ≡ 512
  unfolding read_from
  read_absent h = go (partition d l s) refl (eqb n 512) refl
    where
      go : (q : Result ℕ Refusal) → partition d l s ≡ q → (t : Bool) → eqb n 512 ≡ t → n ≡ 512
      go (Err y) j t i = let k = rw (j, read_from) at h in let z : ◌≡◌ {A = ℕ} 0 1 = cc in absurd (omega arith)
      go (Ok e) j false i = let k = rw (j, read_from, i) at h in let z : ◌≡◌ {A = ℕ} 0 1 = cc in absurd (omega arith)
      go (Ok e) j true i = eqb-true n 512 i

module _ (d : ℕ) (l : List ℕ) (s f n : ℕ) where
  pub described_done : (x : ℕ × ℕ × ℕ) → described_as d l s f n ≡ Ok (Some x) → (528 * f + 528 ≤ length l) × (n ≡ 104)
  unfolding described_as
  described_done x h = go (partition d l s) refl (eqb n 104) refl
    where
      in_part : (e : ℕ) → partition d l s ≡ Ok e → eqb n 104 ≡ true → (t : Bool) → candidate (partition_of d s e) (view l) f ≡ t → (528 * f + 528 ≤ length l) × (n ≡ 104)
      in_part e j i true m = let w = (lies d l s e j).within in (omega (arith, (candidate_in (partition_of d s e) (view l) f m).1), eqb-true n 104 i)
      in_part e j i false m = let k = rw (j, described_as, i, m) at h in let z : ◌≡◌ {A = ℕ} 0 1 = cc in absurd (omega arith)

      go : (q : Result ℕ Refusal) → partition d l s ≡ q → (t : Bool) → eqb n 104 ≡ t → (528 * f + 528 ≤ length l) × (n ≡ 104)
      go (Err y) j t i = let k = rw (j, described_as) at h in let z : ◌≡◌ {A = ℕ} 0 1 = cc in absurd (omega arith)
      go (Ok e) j false i = let k = rw (j, described_as, i) at h in let z : ◌≡◌ {A = ℕ} 0 1 = cc in absurd (omega arith)
      go (Ok e) j true i = in_part e j i (candidate (partition_of d s e) (view l) f) refl
