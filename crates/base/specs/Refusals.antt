-- Refusals: the number of each, and the block that one names (docs/FORMAT.md, 7.3).
use Rattle.std.specs.Prelude.{ℕ}
use Rattle.base.specs.declared.Refusal.{Refusal}
use Rattle.base.specs.declared.Refusal.TheVariants.{BadImage, BadPartition, BadBuffer, Malformed, Unsound, NoCandidate, BadBlock, Full, NothingFree, NoAddress, TooDeep, BadName}

abbrev pub number : Refusal → ℕ
number BadImage = 1
number BadPartition = 2
number BadBuffer = 3
number (Malformed f) = 4
number Unsound = 5
number NoCandidate = 6
number BadBlock = 7
number Full = 8
number NothingFree = 9
number NoAddress = 10
number (TooDeep f) = 11
number BadName = 12

-- the LBN of a malformed candidate, or of a directory of the tenth level; any other refusal names no block
abbrev pub culprit : Refusal → ℕ
culprit BadImage = 0
culprit BadPartition = 0
culprit BadBuffer = 0
culprit (Malformed f) = f
culprit Unsound = 0
culprit NoCandidate = 0
culprit BadBlock = 0
culprit Full = 0
culprit NothingFree = 0
culprit NoAddress = 0
culprit (TooDeep f) = f
culprit BadName = 0
