use mathlib.Core.Path.{sym}
use Rattle.drive.specs.Rows.{on_drive}
use Rattle.drive.specs.Address.{file_ids}
use Rattle.drive.specs.Laws.{soft}
use Rattle.drive.proofs.file_ids.Goals as goal

pub returns-in-0 : goal.returns-in-0
unfolding file_ids on_drive
returns-in-0 c = rw c.in-0.is

pub returns-in-1 : goal.returns-in-1
unfolding file_ids on_drive
returns-in-1 c = rw c.in-1.is

pub returns-in-2 : goal.returns-in-2
unfolding file_ids on_drive
returns-in-2 c = rw c.in-2.is

pub returns-in_default : goal.returns-in_default
unfolding file_ids
returns-in_default c = sym (soft _ _ c.in_default.in_default-own.rest.0.0.1 c.in_default.in_default-own.rest.0.1 c.in_default.in_default-own.rest.1)
