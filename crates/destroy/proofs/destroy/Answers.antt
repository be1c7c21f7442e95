use mathlib.Core.Path.{refl}
use Rattle.volume.specs.Calls.{planned}
use Rattle.change.proofs.Laws.{gate_passed, answered_open, answered_shut}
use Rattle.destroy.proofs.destroy.Goals as goal

pub destroy_open-requires : goal.destroy_open-requires
destroy_open-requires c = (gate_passed c.enter.ensures refl c.in-Ok.is).0

pub returns-in-Ok : goal.returns-in-Ok
unfolding planned
returns-in-Ok c = answered_open _ _ _ _ c.enter.ensures refl c.in-Ok.is c.destroy_open.ensures

pub returns-in-Err : goal.returns-in-Err
unfolding planned
returns-in-Err c = answered_shut _ _ _ _ c.enter.ensures refl c.in-Err.is c.refused.ensures
