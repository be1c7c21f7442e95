use native.Mathlib.Omega.{arith}
use Rattle.drive.specs.Code.{guess, decode}
use Rattle.drive.specs.Rows.{on_drive, pda_code}
use Rattle.drive.specs.Address.{pda_block}
use Rattle.drive.specs.Laws.{soft}
use Rattle.drive.proofs.pda_block.Goals as goal

pub returns-in-0 : goal.returns-in-0
unfolding pda_block on_drive guess
returns-in-0 c = rw c.in-0.is (omega (arith, c.saturating_sub.ensures))

pub returns-in-1 : goal.returns-in-1
unfolding pda_block on_drive guess
returns-in-1 c = rw c.in-1.is (omega (arith, c.saturating_sub-in-1.ensures))

pub returns-in-2 : goal.returns-in-2
unfolding pda_block on_drive guess
returns-in-2 c = rw c.in-2.is (omega (arith, c.saturating_sub-in-2.ensures))

pub returns-in_default : goal.returns-in_default
unfolding pda_block guess
returns-in_default c = rw (soft (λ g. decode (pda_code g) c.args.x) _ c.in_default.in_default-own.rest.0.0.1 c.in_default.in_default-own.rest.0.1 c.in_default.in_default-own.rest.1) (omega (arith, c.saturating_sub-in_default.ensures))
