use mathlib.Core.Path.{sym, ◌∙◌}
use native.Mathlib.Omega.{arith}
use Rattle.drive.specs.Laws.{hard_block, soft_block}
use Rattle.drive.proofs.lda_block.Goals as goal

pub returns-then-drive-lt3 : goal.returns-then-drive-lt3
returns-then-drive-lt3 c = (c.saturating_sub.ensures ∙ sym (hard_block _ _ c.if-drive-lt3.true), omega (arith, c.saturating_sub.ensures))

pub returns-else-drive-lt3 : goal.returns-else-drive-lt3
returns-else-drive-lt3 c = (c.saturating_sub-else-drive-lt3.ensures ∙ sym (soft_block _ _ c.if-drive-lt3.false), omega (arith, c.saturating_sub-else-drive-lt3.ensures))
