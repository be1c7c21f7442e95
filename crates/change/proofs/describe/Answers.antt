use Rattle.std.proofs.lemmas.Option.{MatchOption-at_some}
use Rattle.volume.specs.Calls.{planned}
use Rattle.volume.proofs.Readings.{fine_text}
use Rattle.change.proofs.Laws.{gate_passed, answered_open, answered_shut}
use Rattle.change.proofs.describe.Goals as goal

pub unwrap-text-requires : goal.unwrap-text-requires
unwrap-text-requires c = c.as_array.ensures.variant.1 (fine_text _ (gate_passed c.enter.ensures c.lent.ensures c.in-Ok.is).1).0

pub describe_open-requires : goal.describe_open-requires
describe_open-requires c = (gate_passed c.enter.ensures c.lent.ensures c.in-Ok.is).0

pub returns-in-Ok : goal.returns-in-Ok
unfolding planned
returns-in-Ok c = answered_open _ _ _ _ c.enter.ensures c.lent.ensures c.in-Ok.is (rw (← (MatchOption-at_some _ _ _ c.unwrap-text.ensures c.as_array.ensures.cases).same) c.describe_open.ensures)

pub returns-in-Err : goal.returns-in-Err
unfolding planned
returns-in-Err c = answered_shut _ _ _ _ c.enter.ensures c.lent.ensures c.in-Err.is c.refused.ensures
