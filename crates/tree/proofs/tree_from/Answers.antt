use Rattle.std.specs.Prelude.{Err}
use mathlib.Core.Path.{ap, ◌∙◌}
use Rattle.directory.specs.declared.Stop.{Stop}
use Rattle.tree.specs.Walks.{tree_going, tree_stopped, tree_deep}
use Rattle.tree.proofs.tree_from.Goals as goal

pub returns-in-Ok : goal.returns-in-Ok
returns-in-Ok c = rw (← c.most_rows-most.ensures.0) (tree_going _ _ _ _ _ c.walk.ensures.0 c.walk.ensures.1 _ c.walk-in-Ok.ensures.1 c.in-Ok.is)

pub returns-in-Err-Full : goal.returns-in-Err-Full
returns-in-Err-Full c = rw (← c.most_rows-most.ensures.0) (tree_stopped _ _ _ _ _ c.walk.ensures.0 c.walk.ensures.1 _ c.walk-in-Err-Full.ensures.1 (c.in-Err-Full.is ∙ ap (λ (y : Stop). Err y) c.in-Err-Full.field-0-is))

pub returns-in-Err-Deep : goal.returns-in-Err-Deep
returns-in-Err-Deep c = rw (← c.most_rows-most.ensures.0) (tree_deep _ _ _ _ _ c.walk.ensures.0 c.walk.ensures.1 (c.in-Err-Deep.is ∙ ap (λ (y : Stop). Err y) c.in-Err-Deep.field-0-is))
