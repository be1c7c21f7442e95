use native.Mathlib.Omega.{arith}
use Rattle.links.proofs.Laws.{owned_nil}
use Rattle.links.proofs.owned.Goals as goal

pub returns-then-x-eq0 : goal.returns-then-x-eq0
returns-then-x-eq0 c = owned_nil _ _ _ _ c.pair-x.ensures.0 (omega (arith, c.if-x-eq0.true))
