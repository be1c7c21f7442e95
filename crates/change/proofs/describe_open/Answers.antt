use Rattle.std.proofs.Common.{rules, tests}
use Rattle.base.specs.declared.Refusal.TheVariants.{NoCandidate}
use Rattle.change.proofs.Laws.{answered_not, answered_done, block_fib, describe_nowhere, describe_is}
use Rattle.change.proofs.describe_open.Goals as goal

pub returns-then-not-candidate : goal.returns-then-not-candidate
returns-then-not-candidate c = answered_not NoCandidate (describe_nowhere _ _ _ _ (search (rules, tests))) c.refused.ensures

pub describe_store-requires : goal.describe_store-requires
describe_store-requires c = block_fib c.requires _ (search (rules, tests))

pub returns : goal.returns
returns c = answered_done _ (describe_is _ _ _ _ (search (rules, tests))) c.describe_store.ensures c.done.ensures
