use mathlib.Core.Path.{sym, ◌∙◌}
use Rattle.drive.proofs.Names.{address_kept, address_new}
use Rattle.drive.proofs.address.Goals as goal

pub returns-then-is_lda : goal.returns-then-is_lda
returns-then-is_lda c = (sym (address_kept _ _ _ (sym c.is_lda.ensures ∙ c.if-is_lda.true)), c.requires.0)

pub returns-else-is_lda : goal.returns-else-is_lda
returns-else-is_lda c = (c.lda.ensures.0 ∙ sym (address_new _ _ _ (sym c.is_lda.ensures ∙ c.if-is_lda.false)), c.lda.ensures.1 c.requires.1)
