use mathlib.Core.Path.{subst}
use native.Mathlib.Omega.{arith}
use Rattle.drive.specs.Fits.{Fits}
use Rattle.perq.proofs.converted.Goals as goal

pub came_to-requires : goal.came_to-requires
came_to-requires c = (omega arith, subst Fits c.in-Ok.is c.requires, omega arith, omega arith)

pub refused-requires : goal.refused-requires
refused-requires c = (subst Fits c.in-Err.is c.requires, omega arith, omega arith)

pub returns-in-Ok : goal.returns-in-Ok
returns-in-Ok c = rw c.in-Ok.is c.came_to.ensures

pub returns-in-Err : goal.returns-in-Err
returns-in-Err c = rw c.in-Err.is c.refused.ensures
