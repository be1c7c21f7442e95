use mathlib.Core.Path.{sym, ◌∙◌}
use Rattle.volume.proofs.Readings.{lies}
use Rattle.inspect.proofs.open.Goals as goal

pub invariant_of-result : goal.invariant_of-result
invariant_of-result c = record { lies = lies _ _ _ _ (sym c.partition.ensures ∙ c.in_ok-e.was) }
