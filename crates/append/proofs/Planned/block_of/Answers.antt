use mathlib.Core.Path.{sym, ◌∙◌}
use Rattle.append.proofs.Laws.{at_new}
use Rattle.append.proofs.Planned.block_of.Goals as goal

pub returns-then-is_new : goal.returns-then-is_new
returns-then-is_new c = at_new c.args.self.now.appends _ (sym c.is_new.ensures ∙ c.if-is_new.true) _ c.fresh.ensures
