-- The seven numbers of `perq_answer` in include/perq.h, for each case of an answer. PERQ_DONE, PERQ_ABSENT and PERQ_REFUSED are
-- outcomes 0, 1 and 2; a field that a call does not speak of is 0.
use Rattle.volume.specs.Outcome.{Outcome}
use Rattle.std.specs.Prelude.{◌≡◌, List, ℕ, length, take, Some, None, Ok, Err, Result}
use Rattle.base.specs.Refusals.{number, culprit}
use Rattle.base.specs.declared.Refusal.{Refusal}
use Rattle.image.specs.Stores.{stored}
use Rattle.volume.specs.Calls.{Planned}
use Rattle.volume.specs.declared.Source.{Source}
use Rattle.volume.specs.declared.Source.TheVariants.{Repaired, Original}
use Rattle.perq.specs.declared.PerqAnswer.{PerqAnswer}

abbrev pub answer : ℕ → ℕ → ℕ → ℕ → ℕ → ℕ → ℕ → PerqAnswer
answer outcome number block made a b c =
    record { outcome = outcome; number = number; block = block; made = made; a = a; b = b; c = c }

-- a conversion: its number, or its refusal
abbrev pub flat_converted : Result ℕ Refusal → PerqAnswer
flat_converted (Ok x) = answer 0 0 0 0 x 0 0
flat_converted (Err y) = answer 2 (number y) (culprit y) 0 0 0 0

-- any other call, which made so many stores
abbrev pub flat : ℕ → Outcome → PerqAnswer
flat made (Ok (Some x)) = answer 0 0 0 made x.0 x.1 x.2
flat made (Ok None) = answer 1 0 0 made 0 0 0
flat made (Err y) = answer 2 (number y) (culprit y) made 0 0 0

-- show of a pair: c names the image that answered
abbrev pub image_number : Source → ℕ
image_number Repaired = 1
image_number Original = 2

abbrev pub flat_from : Source → Outcome → PerqAnswer
flat_from image (Ok (Some x)) = answer 0 0 0 0 x.0 x.1 (image_number image)
flat_from image (Ok None) = answer 1 0 0 0 0 0 (image_number image)
flat_from image (Err y) = answer 2 (number y) (culprit y) 0 0 0 (image_number image)

-- a changing call with that plan and limit turned l into l' and answered r
pub record Changed (limit : ℕ) (p : Planned) (l l' : List ℕ) (r : PerqAnswer) : Type 0 where
  pub answers : r ≡ flat (length (take limit p.list)) p.outcome
  pub image : l' ≡ stored (take limit p.list) l
