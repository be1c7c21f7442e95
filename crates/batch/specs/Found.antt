-- What is found of an image: its only good partition, and the verdict on that.
use Rattle.std.specs.Prelude.{Bool, true, false, List, [], ◌∷◌, ℕ, ◌/◌, length, Option, Some, None, unwrap_or, Result, Ok, Err}
use Rattle.base.specs.Tests.{those}
use Rattle.base.specs.declared.Refusal.TheVariants.{BadImage}
use Rattle.volume.specs.Answers.{partition}
use Rattle.base.specs.declared.Refusal.{Refusal}
use Rattle.verdict.specs.Choice.{settled}
use Rattle.verdict.specs.declared.Verdict.TheVariants as came
use Rattle.batch.specs.declared.judge.Judged.{Judged}
use Rattle.batch.specs.declared.judge.NoVerdict.{NoVerdict}
use Rattle.batch.specs.declared.judge.NoVerdict.TheVariants.{Several}

abbrev pub is_good : Result ℕ Refusal → Bool
is_good (Ok e) = true
is_good (Err y) = false

-- a good partition starts at s
abbrev pub good : ℕ → List ℕ → ℕ → Bool
good d l s = is_good (partition d l s)

-- the only number of a list, if there is one
unfoldable pub sole : List ℕ → Result (Option ℕ) NoVerdict
sole [] = Ok None
sole (s ∷ []) = Ok (Some s)
sole (s ∷ (t ∷ ss)) = Err Several

-- where the only good partition starts
unfoldable pub only : ℕ → List ℕ → Result (Option ℕ) NoVerdict
only d l = sole (those 0 (length l / 528) (good d l))

-- what is found of an image, and the image as it is left
pub record Looked : Type 0 where
  pub found : Result Judged NoVerdict
  pub image : List ℕ

-- by where the only good partition starts; block 0 stands for none, and starts none
abbrev pub looked_at : ℕ → List ℕ → Result (Option ℕ) NoVerdict → Looked
looked_at d l (Ok o) =
    let s = unwrap_or o 0 in
    record { found = Ok (record { length = length l; start = s; verdict = (settled d l s).verdict }); image = (settled d l s).image }
looked_at d l (Err why) = record { found = Err why; image = l }

-- without a drive it is no image, as on a drive that is not there (NoDrive.antt)
abbrev pub looked : Option ℕ → List ℕ → Looked
looked None l = record { found = Ok (record { length = length l; start = 0; verdict = came.Refused BadImage }); image = l }
looked (Some d) l = looked_at d l (only d l)
