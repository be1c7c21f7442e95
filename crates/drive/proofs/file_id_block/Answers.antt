use mathlib.Core.Path.{sym, ◌∙◌}
use native.Mathlib.Omega.{arith}
use Rattle.drive.specs.Laws.{hard_id_block, soft_id_block}
use Rattle.drive.proofs.file_id_block.Goals as goal

pub returns-then-drive-lt3 : goal.returns-then-drive-lt3
returns-then-drive-lt3 c = (sym (hard_id_block _ _ c.if-drive-lt3.true), omega arith)

pub returns-else-drive-lt3 : goal.returns-else-drive-lt3
returns-else-drive-lt3 c = (c.saturating_sub.ensures ∙ sym (soft_id_block _ _ c.if-drive-lt3.false), omega (arith, c.saturating_sub.ensures))
