-- The image that is left is the image as it was, unless check answers 5; then all of repair's stores are in it, and a repair that is
-- refused has none.
use Rattle.volume.specs.Outcome.{Outcome}
use Rattle.std.specs.Prelude.{◌≡◌, Bool, true, false, ℕ, eqb, length, Option, Some, None, Ok, Err}
use Rattle.std.proofs.Math.Path.{refl, ap}
use mathlib.Core.List.{List, []}
use Rattle.std.proofs.Common.{arith}
use Rattle.base.specs.Tests.{pick}
use Rattle.base.specs.declared.Refusal.{Refusal}
use Rattle.base.specs.declared.Refusal.TheVariants.{BadImage, BadPartition, BadBuffer, Malformed, Unsound, NoCandidate, BadBlock, Full, NothingFree, NoAddress, TooDeep, BadName}
use Rattle.image.specs.View.{Store}
use Rattle.image.specs.Image.{view}
use Rattle.image.specs.Stores.{stored}
use Rattle.volume.specs.Files.{partition_of, unowned}
use Rattle.volume.specs.Plans.{repair_plan}
use Rattle.volume.proofs.Readings.{in_part}
use Rattle.volume.specs.Answers.{partition, checked, lowest_malformed}
use Rattle.volume.specs.Calls.{Planned, refuse, finish, unmarred, repair_in, planned, repair}
use Rattle.verdict.specs.declared.Course.{Course}
use Rattle.verdict.specs.declared.Course.TheVariants as course
use Rattle.verdict.specs.Choice.{choice, repaired, followed, settled}

-- what holds of every refusal, and of repair done in a good partition, holds of repair
pub of_repair : (P : Planned → Type 0) → ((y : Refusal) → P (refuse y)) → (d : ℕ) (l : List ℕ) (s : ℕ)
    → ((e : ℕ) → partition d l s ≡ Ok e → P (finish 0 (repair_plan (partition_of d s e) (view l)))) → P (planned d l s repair)
unfolding planned repair_in
of_repair P shut d l s k =
    in_part P refuse (shut BadImage) (shut BadPartition) d l s _
    (λ e h. go e h (lowest_malformed (partition_of d s e) (view l)) (eqb (length (unowned (partition_of d s e) (view l))) 0))
  where
    go : (e : ℕ) → partition d l s ≡ Ok e → (x : Option ℕ) (t : Bool)
        → P (unmarred x (pick t (refuse NothingFree) (finish 0 (repair_plan (partition_of d s e) (view l)))))
    go e h (Some f) t = shut (Malformed f)
    go e h None true = shut NothingFree
    go e h None false = k e h

module _ (d : ℕ) (l : List ℕ) (s : ℕ) where
  pub kept : (checked d l s ≡ Err Unsound → ⊥) → (settled d l s).image ≡ l
  unfolding settled
  kept n = go (checked d l s) n
    where
      go : (o : Outcome) → (o ≡ Err Unsound → ⊥) → (followed l (choice o) (repaired d l s)).image ≡ l
      go (Ok (Some x)) n = refl
      go (Ok None) n = refl
      go (Err BadImage) n = refl
      go (Err BadPartition) n = refl
      go (Err BadBuffer) n = refl
      go (Err (Malformed f)) n = refl
      go (Err Unsound) n = absurd (n refl)
      go (Err NoCandidate) n = refl
      go (Err BadBlock) n = refl
      go (Err Full) n = refl
      go (Err NothingFree) n = refl
      go (Err NoAddress) n = refl
      go (Err (TooDeep f)) n = refl
      go (Err BadName) n = refl

  pub changed : checked d l s ≡ Err Unsound → (settled d l s).image ≡ stored (planned d l s repair).list l
  unfolding settled repaired
  changed q = ap (λ (o : Outcome). (followed l (choice o) (repaired d l s)).image) q

  no_store : (y : Refusal) → (planned d l s repair).outcome ≡ Err y → (planned d l s repair).list ≡ []
  no_store y q =
      of_repair (λ (p : Planned). p.outcome ≡ Err y → p.list ≡ []) (λ x h. refl) d l s
      (λ e h j. let z : ◌≡◌ {A = ℕ} 0 1 = cc in absurd (omega arith)) q

  pub refused_kept : (y : Refusal) → (planned d l s repair).outcome ≡ Err y → (settled d l s).image ≡ l
  unfolding settled repaired stored
  refused_kept y q = go (choice (checked d l s))
    where
      go : (x : Course) → (followed l x (repaired d l s)).image ≡ l
      go (course.Leave a) = refl
      go course.Repair = ap (λ (ss : List Store). stored ss l) (no_store y q)
      go (course.SetAside f) = refl
      go (course.Refuse n) = refl
