use Rattle.append.proofs.Numbers.{takes_one, takes_two, takes_three}
use borrow.Author.Rules.{rules}
use Rattle.append.proofs.place.needs.Goals as goal

pub returns-then-low : goal.returns-then-low
returns-then-low c = (search rules, search rules, λ π v f at. takes_one π v f _ at _ _ c.low.ensures.0 c.low-2.ensures.0 c.if-low.true)

pub returns-then-nearest : goal.returns-then-nearest
returns-then-nearest c = (search rules, search rules, λ π v f at. takes_two π v f _ at _ _ c.low.ensures.0 c.low-2.ensures.0 c.if-low.false _ _ c.nearest.ensures.0 c.nearest-2.ensures.0 c.if-nearest.true)

pub returns-else-nearest : goal.returns-else-nearest
returns-else-nearest c = (search rules, search rules, λ π v f at. takes_three π v f _ at _ _ c.low.ensures.0 c.low-2.ensures.0 c.if-low.false _ _ c.nearest.ensures.0 c.nearest-2.ensures.0 c.if-nearest.false)
