use mathlib.Core.Path.{refl}
use native.Mathlib.Omega.{arith}
use Rattle.volume.specs.Calls.{planned}
use Rattle.change.proofs.Laws.{gate_passed, answered_open, answered_shut}
use Rattle.change.proofs.create.Goals as goal

pub create_open-requires : goal.create_open-requires
create_open-requires c = ((gate_passed c.enter.ensures refl c.in-Ok.is).0, omega (arith, c.from.ensures, c.ranges.kind.fits))

pub returns-in-Ok : goal.returns-in-Ok
unfolding planned
returns-in-Ok c = answered_open _ _ _ _ c.enter.ensures refl c.in-Ok.is (rw (← c.from.ensures) c.create_open.ensures)

pub returns-in-Err : goal.returns-in-Err
unfolding planned
returns-in-Err c = answered_shut _ _ _ _ c.enter.ensures refl c.in-Err.is c.refused.ensures
