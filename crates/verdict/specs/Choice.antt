-- What comes of a partition, the verdict on it and the image that is left: by what check answers it is left alone, repaired, set aside or
-- refused. Only a repair changes the image.
use Rattle.volume.specs.Outcome.{Outcome}
use Rattle.std.specs.Prelude.{List, ℕ, length, Some, None, Ok, Err}
use Rattle.base.specs.declared.Refusal.{Refusal}
use Rattle.base.specs.declared.Refusal.TheVariants.{BadPartition, Malformed, Unsound}
use Rattle.image.specs.Stores.{stored}
use Rattle.volume.specs.Answers.{checked}
use Rattle.volume.specs.Calls.{planned, repair}
use Rattle.verdict.specs.declared.Course.{Course}
use Rattle.verdict.specs.declared.Course.TheVariants as course
use Rattle.verdict.specs.declared.Verdict.{Verdict}
use Rattle.verdict.specs.declared.Verdict.TheVariants as came

-- a malformed candidate is for a person, an unsound partition for repair, any other refusal stands
abbrev pub refusal : Refusal → Course
refusal (Malformed f) = course.SetAside f
refusal Unsound = course.Repair
refusal y = course.Refuse y

-- what is to be done where check answers so; it never answers absent
abbrev pub choice : Outcome → Course
choice (Ok (Some x)) = course.Leave (record { files = x.0; owned = x.1; free = x.2 })
choice (Ok None) = course.Refuse BadPartition
choice (Err y) = refusal y

-- after a repair of so many stores only a sound partition is repaired
abbrev pub mended : ℕ → Course → Verdict
mended made (course.Leave x) = came.Repaired made x
mended made course.Repair = came.Refused Unsound
mended made (course.SetAside f) = came.SetAside f
mended made (course.Refuse y) = came.Refused y

-- what comes of a repair that answers so, and then of k
abbrev pub where_done : Outcome → Verdict → Verdict
where_done (Ok (Some x)) k = k
where_done (Ok None) k = came.Refused BadPartition
where_done (Err y) k = came.Refused y

-- a verdict on a partition, and the image as it is left
pub record Ending : Type 0 where
  pub verdict : Verdict
  pub image : List ℕ

-- all of repair's stores, and check of what they leave; a repair that is refused has no store
unfoldable pub repaired : ℕ → List ℕ → ℕ → Ending
repaired d l s =
    let p = planned d l s repair in
    let l' = stored p.list l in
    record { verdict = where_done p.outcome (mended (length p.list) (choice (checked d l' s))); image = l' }

-- repair comes to k; any other course leaves the image l as it was
abbrev pub followed : List ℕ → Course → Ending → Ending
followed l (course.Leave x) k = record { verdict = came.Sound x; image = l }
followed l course.Repair k = k
followed l (course.SetAside f) k = record { verdict = came.SetAside f; image = l }
followed l (course.Refuse y) k = record { verdict = came.Refused y; image = l }

-- what comes of the partition at s
unfoldable pub settled : ℕ → List ℕ → ℕ → Ending
settled d l s = followed l (choice (checked d l s)) (repaired d l s)
