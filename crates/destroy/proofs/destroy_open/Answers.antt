use Rattle.std.proofs.Common.{rules, tests}
use Rattle.base.specs.declared.Refusal.TheVariants.{NoCandidate}
use Rattle.change.proofs.Laws.{answered_not, answered_done, file_opened}
use Rattle.destroy.proofs.Laws.{destroy_nowhere, destroy_is, destroys}
use Rattle.destroy.proofs.destroy_open.Goals as goal

pub returns-then-not-candidate : goal.returns-then-not-candidate
returns-then-not-candidate c = answered_not NoCandidate (destroy_nowhere _ _ _ (search (rules, tests))) c.refused.ensures

pub invariant_of-file : goal.invariant_of-file
invariant_of-file c = record { opened = file_opened c.requires _ (search (rules, tests)) }

pub destroy_store-made-requires : goal.destroy_store-made-requires
destroy_store-made-requires c = destroys c.requires (search (rules, tests)) _ _ _ _ c.size_of-n.ensures.1 c.spot-top.ensures.1 c.spot-last.ensures.1 c.tail-tail.ensures.1

pub returns : goal.returns
returns c = answered_done _ (destroy_is _ _ _ _ _ _ _ _ _ _ (search (rules, tests)) (file_opened c.requires _ (search (rules, tests))).formed c.len-k.ensures.0 c.low-low.ensures.0 c.size_of-n.ensures.0 c.spot-top.ensures.0 c.spot-last.ensures.0 c.tail-tail.ensures.0 c.head-h.ensures.0) c.destroy_store-made.ensures c.done.ensures
