use mathlib.Core.Path.{sym, ◌∙◌}
use Rattle.repair.specs.Answer.{answered_not, refused_part, refused_malformed, planned_in}
use Rattle.volume.proofs.Readings.{lies}
use Rattle.repair.proofs.repair.Goals as goal

pub invariant_of-volume : goal.invariant_of-volume
invariant_of-volume c = record { lies = lies _ _ _ _ (sym c.partition.ensures ∙ c.in-Ok.is) }

pub repair_in-requires : goal.repair_in-requires
repair_in-requires c = record { lies = lies _ _ _ _ (sym c.partition.ensures ∙ c.in-Ok.is); none = sym c.lowest_malformed.ensures ∙ c.in-None.is }

pub returns-in-Err : goal.returns-in-Err
returns-in-Err c = answered_not _ (refused_part _ _ _ _ (sym c.partition.ensures ∙ c.in-Err.is)) c.refused.ensures

pub returns-in-Some : goal.returns-in-Some
returns-in-Some c = answered_not _ (refused_malformed _ _ _ _ (sym c.partition.ensures ∙ c.in-Ok.is) _ (sym c.lowest_malformed.ensures ∙ c.in-Some.is)) c.refused-in-Some.ensures

pub returns-in-None : goal.returns-in-None
returns-in-None c = rw (planned_in _ _ _ _ (sym c.partition.ensures ∙ c.in-Ok.is) (sym c.lowest_malformed.ensures ∙ c.in-None.is)) c.repair_in.ensures
