use Rattle.std.specs.Prelude.{Ok}
use mathlib.Core.Path.{ap, sym, ◌∙◌}
use Rattle.reading.proofs.Laws.{part_long, read_done, read_absent}
use Rattle.reading.proofs.read.Goals as goal

pub put-requires : goal.put-requires
put-requires c = let i = read_done _ _ _ _ _ _ _ (sym c.read_from.ensures ∙ c.in_ok-at.was ∙ ap Ok c.in-Some.is) in i.1 ∙ sym (part_long _ _ 512 i.0)

pub put-requires-in-None : goal.put-requires-in-None
put-requires-in-None c = read_absent _ _ _ _ _ _ (sym c.read_from.ensures ∙ c.in_ok-at.was ∙ ap Ok c.in-None.is)

pub returns-in-None : goal.returns-in-None
returns-in-None c = let q = sym c.read_from.ensures ∙ c.in_ok-at.was ∙ ap Ok c.in-None.is in (rw q, rw q c.put-in-None.ensures)
