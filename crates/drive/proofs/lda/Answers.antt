use mathlib.Core.Path.{sym}
use native.Mathlib.Omega.{arith}
use Rattle.drive.specs.Laws.{hard_lda, soft_lda}
use Rattle.drive.proofs.lda.Goals as goal

pub returns-then-drive-lt3 : goal.returns-then-drive-lt3
returns-then-drive-lt3 c = (sym (hard_lda _ _ c.if-drive-lt3.true), λ l. omega arith)

pub returns-else-drive-lt3 : goal.returns-else-drive-lt3
returns-else-drive-lt3 c = (sym (soft_lda _ _ c.if-drive-lt3.false), λ l. omega arith)
