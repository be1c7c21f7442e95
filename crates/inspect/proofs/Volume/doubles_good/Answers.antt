use Rattle.std.proofs.Common.{rules, tests}
use Rattle.std.proofs.lemmas.Iterator.{serves_from_Range}
use Rattle.base.proofs.Chains.{all_below}
use Rattle.inspect.proofs.Ways.{double_held}
use Rattle.inspect.proofs.Volume.doubles_good.Goals as goal

pub all-requires-clause-callable : goal.all-requires-clause-callable
all-requires-clause-callable c = serves_from_Range (λ x q k. search (rules, tests)) (λ x low high. search (rules, double_held))

pub returns : goal.returns
returns c = all_below _ _ _ _ _ c.all.ensures.ran (λ x b q k. search (rules, tests))
