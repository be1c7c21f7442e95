-- Without a drive an image is judged as on a drive of a number that none has.
use Rattle.std.specs.Prelude.{◌≡◌, refl, true, List, [], ℕ, zero, suc, ◌<◌, ◌/◌, length, Some, None, Ok, Err}
use Rattle.std.proofs.Common.{ap, leb-true, arith}
use Rattle.base.specs.Tests.{those}
use Rattle.base.specs.Laws.{every_at, never}
use Rattle.base.specs.declared.Refusal.TheVariants.{BadImage}
use Rattle.volume.specs.Answers.{image_good, partition, checked}
use Rattle.verdict.specs.Choice.{settled}
use Rattle.verdict.specs.declared.Verdict.TheVariants as came
use Rattle.batch.specs.Found.{good, sole, only, looked}

module _ (d : ℕ) (l : List ℕ) (h : 3 < d) where
  no_image : image_good d (length l) ≡ true → ⊥
  unfolding image_good
  no_image q = let z = leb-true d 3 (every_at _ q 0) in absurd (omega arith)

  shut : (s : ℕ) → partition d l s ≡ Err BadImage
  unfolding partition
  shut s = rw (never _ no_image) refl

  none_good : (k i : ℕ) → those i k (good d l) ≡ []
  unfolding those
  none_good zero i = refl
  none_good (suc k) i = rw (shut i) (none_good k (suc i))

  none_found : only d l ≡ Ok None
  unfolding only sole
  none_found = ap sole (none_good (length l / 528) 0)

  refused : settled d l 0 ≡ record { verdict = came.Refused BadImage; image = l }
  unfolding settled checked
  refused = rw (shut 0) refl

  pub no_drive : looked None l ≡ looked (Some d) l
  no_drive = rw (none_found, refused) refl
