-- What comes of a repair by what it answers. Assumes nothing.
use Rattle.std.specs.Prelude.{Ok}
use mathlib.Core.Path.{◌≡◌, refl, ap, ◌∙◌}
use mathlib.Core.List.{List}
use Prim.Native.Nat.{ℕ, zero, suc, ◌≤◌}
use native.Mathlib.Omega.{arith}
use lib.ListN.{length, take, length-append}
use lib.Seq.{take_all}
use Rattle.base.specs.Tests.{tab_from}
use Rattle.image.specs.View.{Store}
use Rattle.image.specs.Image.{view}
use Rattle.image.specs.Stores.{stored}
use Rattle.volume.specs.Files.{partition_of}
use Rattle.volume.specs.Plans.{stores, repair_plan, repair_stores}
use Rattle.volume.proofs.Readings.{lies}
use Rattle.volume.specs.Answers.{partition, checked}
use Rattle.volume.specs.Calls.{Planned, planned, repair, Answered}
use Rattle.volume.specs.declared.Answer.{Answer}
use Rattle.volume.specs.Outcome.{Outcome}
use Rattle.verdict.specs.Left.{of_repair}
use Rattle.verdict.specs.Choice.{choice, mended, where_done, repaired}

-- ---- repair has a store for each block of the partition, so that a limit of 32,767 or more leaves none out

tab_length : (i k : ℕ) (f : ℕ → Store) → length (tab_from i k f) ≡ k
unfolding tab_from
tab_length i zero f = refl
tab_length i (suc k) f = ap suc (tab_length (suc i) k f)

module _ (d : ℕ) (l : List ℕ) (s : ℕ) where
  few_in : (e : ℕ) → partition d l s ≡ Ok e → length (repair_stores (partition_of d s e) (view l)) ≤ 32767
  unfolding stores repair_plan
  few_in e h = simp (length-append, tab_length) (omega (arith, (lies d l s e h).small))

  all_stores : (n : ℕ) → 32767 ≤ n → take n (planned d l s repair).list ≡ (planned d l s repair).list
  all_stores n h = take_all n _ (omega (arith, of_repair (λ (p : Planned). length p.list ≤ 32767) (λ y. omega arith) d l s few_in))

-- ---- the answers

-- what comes of a repair that answered so and left l', where the limit lets it make all its stores
pub repaired_is : (d s : ℕ) {n : ℕ} {l l' : List ℕ} {a : Answer} → Answered n (planned d l s repair) l l' a → 32767 ≤ n → (o : Outcome) → a.outcome ≡ o
    → (where_done o (mended a.made (choice (checked d l' s))) ≡ (repaired d l s).verdict) × (l' ≡ (repaired d l s).image)
unfolding repaired
repaired_is d s {n} {l} h m o q =
    let e = all_stores d l s n m in
    (rw (← q, h.outcome, h.made, h.image, e), h.image ∙ ap (λ (ss : List Store). stored ss l) e)
