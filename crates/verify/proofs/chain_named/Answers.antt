use mathlib.Core.Path.{sym, ap, ◌∙◌}
use Rattle.base.specs.Tests.{every}
use Rattle.drive.specs.Address.{lda_block}
use Rattle.volume.proofs.Steps.{every_no, and_true}
use Rattle.verify.specs.Walks.{named}
use Rattle.verify.proofs.chain_named.Goals as goal

pub returns-then-not-is_lda : goal.returns-then-not-is_lda
unfolding named
returns-then-not-is_lda c = let x = c.pair-x.ensures.0 in sym (every_no _ 0 (sym (rw (c.lda_block.ensures.0 ∙ ap (lda_block _) x, x) at c.is_lda.ensures) ∙ c.if-not-is_lda.true))

pub returns-then-not-is_lda-2 : goal.returns-then-not-is_lda-2
unfolding named
returns-then-not-is_lda-2 c = sym (every_no _ 1 (sym (rw c.pair.ensures.0 at c.is_lda-2.ensures) ∙ c.if-not-is_lda-2.true))

pub returns : goal.returns
unfolding named every
returns c =
    let x = c.pair-x.ensures.0 in
    let head = sym (rw (c.lda_block.ensures.0 ∙ ap (lda_block _) x, x) at c.is_lda.ensures) ∙ c.if-not-is_lda.false in
    let tail = sym (rw c.pair.ensures.0 at c.is_lda-2.ensures) ∙ c.if-not-is_lda-2.false in
    rw (c.pair-2.ensures.0, head, tail, named) (sym (and_true _))
