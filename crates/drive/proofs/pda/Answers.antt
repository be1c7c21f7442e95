use native.Mathlib.Omega.{arith}
use Rattle.drive.specs.Code.{place_number, encode}
use Rattle.drive.specs.Rows.{on_drive, pda_code}
use Rattle.drive.specs.Address.{pda}
use Rattle.drive.specs.Laws.{soft}
use Rattle.drive.proofs.pda.Goals as goal

pub returns-in-0 : goal.returns-in-0
unfolding pda on_drive place_number
returns-in-0 c = rw c.in-0.is (omega arith, λ l. omega arith)

pub returns-in-1 : goal.returns-in-1
unfolding pda on_drive place_number
returns-in-1 c = rw c.in-1.is (omega arith, λ l. omega arith)

pub returns-in-2 : goal.returns-in-2
unfolding pda on_drive place_number
returns-in-2 c = rw c.in-2.is (c.micropolis.ensures, λ l. rw c.micropolis.ensures (omega arith))

pub returns-in_default : goal.returns-in_default
unfolding pda place_number
returns-in_default c = rw (soft (λ g. encode (pda_code g) c.args.b) _ c.in_default.in_default-own.rest.0.0.1 c.in_default.in_default-own.rest.0.1 c.in_default.in_default-own.rest.1) (omega arith, λ l. omega arith)
