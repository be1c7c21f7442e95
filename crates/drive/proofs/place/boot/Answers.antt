use mathlib.Core.Path.{◌≡◌, refl}
use mathlib.Core.Logic.{◌≢◌}
use Prim.Native.Nat.{ℕ, zero, suc}
use native.Mathlib.Omega.{arith}
use Rattle.drive.specs.Rows.{on_drive}
use Rattle.drive.specs.Laws.{row_of, soft_row}
use Rattle.drive.proofs.place.boot.Goals as goal

-- all but the Micropolis have a boot area of 30

others : (d : ℕ) → d ≢ 2 → 30 ≡ (row_of d).boot
unfolding row_of on_drive
others zero h = refl
others (suc zero) h = refl
others (suc (suc zero)) h = absurd (h refl)
others (suc (suc (suc d))) h = rw (soft_row (suc (suc (suc d))) (omega arith))

pub returns-then-drive-eq2 : goal.returns-then-drive-eq2
unfolding row_of on_drive
returns-then-drive-eq2 c = rw c.if-drive-eq2.true (refl, omega arith)

pub returns-else-drive-eq2 : goal.returns-else-drive-eq2
returns-else-drive-eq2 c = (others _ c.if-drive-eq2.false, omega arith)
