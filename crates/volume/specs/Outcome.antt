-- What a call comes to, as `volume::Outcome` is: its values, or nothing there; or why it is refused. What a buffer that it is lent is alone, as
-- `volume::Lent` is, and the refusals of one that is unfit: 3 and 12.
use Rattle.std.specs.Prelude.{ℕ, Option, Result}
use Rattle.base.specs.declared.Refusal.{Refusal}
use Rattle.base.specs.declared.Refusal.TheVariants.{BadBuffer, BadName}
use Rattle.volume.specs.declared.Unfit.{Unfit}
use Rattle.volume.specs.declared.Unfit.TheVariants.{Length, Name}

abbrev pub Outcome : Type 0
Outcome = Result (Option (ℕ × ℕ × ℕ)) Refusal

abbrev pub Lent : Type 0
Lent = Result (Unit {0}) Unfit

abbrev pub unfit_refusal : Unfit → Refusal
unfit_refusal Length = BadBuffer
unfit_refusal Name = BadName
