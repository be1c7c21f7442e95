-- How an image came out, and how many came out each way.
use Rattle.std.specs.Prelude.{ℕ, ◌+◌, ◌-◌, ◌^◌, min, Result, Ok, Err}
use Rattle.verdict.specs.declared.Verdict.{Verdict}
use Rattle.verdict.specs.declared.Verdict.TheVariants as came
use Rattle.batch.specs.declared.judge.Judged.{Judged}
use Rattle.batch.specs.declared.judge.NoVerdict.{NoVerdict}
use Rattle.batch.specs.declared.table.Counts.{Counts}
use Rattle.batch.specs.declared.table.Status.{Status}
use Rattle.batch.specs.declared.table.Status.TheVariants.{Sound, Repaired, SetAside, Refused}

abbrev pub came_out : Verdict → Status
came_out (came.Sound tally) = Sound
came_out (came.Repaired stores tally) = Repaired
came_out (came.SetAside f) = SetAside
came_out (came.Refused why) = Refused

-- without a verdict an image is refused
abbrev pub status_of : Result Judged NoVerdict → Status
status_of (Ok judged) = came_out judged.verdict
status_of (Err why) = Refused

-- one more, up to the most that is counted
abbrev pub more : ℕ → ℕ
more n = min (n + 1) (2 ^ 64 - 1)

abbrev pub one_more : Counts → Status → Counts
one_more c Sound = record c { sound = more c.sound }
one_more c Repaired = record c { repaired = more c.repaired }
one_more c SetAside = record c { set_aside = more c.set_aside }
one_more c Refused = record c { refused = more c.refused }
