use mathlib.Core.Path.{◌≡◌, refl, sym}
use native.Mathlib.Omega.{arith}
use Rattle.drive.specs.Rows.{on_drive}
use Rattle.drive.specs.Address.{blocks}
use Rattle.drive.specs.Laws.{soft}
use Rattle.drive.proofs.blocks.Goals as goal

pub returns-then-drive-eq2 : goal.returns-then-drive-eq2
unfolding blocks on_drive
returns-then-drive-eq2 c = rw c.if-drive-eq2.true (refl, omega arith)

pub returns-then-drive-gt2 : goal.returns-then-drive-gt2
unfolding blocks
returns-then-drive-gt2 c = let h = c.if-drive-gt2.true in (sym (soft _ _ (λ e. omega (arith, h, e)) (λ e. omega (arith, h, e)) (λ e. omega (arith, h, e))), omega arith)

pub returns-then-drive-eq0 : goal.returns-then-drive-eq0
unfolding blocks on_drive
returns-then-drive-eq0 c = rw c.if-drive-eq0.true (refl, omega arith)

pub returns-else-drive-eq0 : goal.returns-else-drive-eq0
unfolding blocks on_drive
returns-else-drive-eq0 c = let e : c.args.drive ≡ 1 = omega (arith, c.if-drive-eq0.false, c.if-drive-gt2.false, c.if-drive-eq2.false) in rw e (refl, omega arith)
