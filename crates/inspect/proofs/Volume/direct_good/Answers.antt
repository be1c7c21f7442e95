use Rattle.std.proofs.Common.{rules, tests}
use Rattle.base.proofs.Chains.{all_below}
use Rattle.inspect.proofs.Volume.direct_good.Goals as goal

pub returns : goal.returns
returns c = all_below _ _ _ _ _ c.all.ensures.ran (λ x b q k. search (rules, tests))
