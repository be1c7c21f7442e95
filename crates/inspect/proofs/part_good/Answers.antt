use mathlib.Core.Path.{sym, ap, ◌∙◌}
use borrow.Author.Tests.{lt-ltb, le-ltb, le-leb, lt-leb}
use Rattle.base.specs.Tests.{every}
use Rattle.drive.specs.Address.{lda_block}
use Rattle.volume.specs.Answers.{part_good, end_of}
use Rattle.volume.proofs.Steps.{every_no, and_true}
use Rattle.inspect.proofs.part_good.Goals as goal

pub returns-then-s-lt1 : goal.returns-then-s-lt1
unfolding part_good
returns-then-s-lt1 c = sym (every_no _ 0 (lt-leb _ _ c.if-s-lt1.true))

pub returns-then-n-s : goal.returns-then-n-s
unfolding part_good
returns-then-n-s c = sym (every_no _ 1 (le-ltb _ _ c.if-n-s.true))

pub returns-then-not-is_lda : goal.returns-then-not-is_lda
unfolding part_good
returns-then-not-is_lda c = sym (every_no _ 2 (sym (rw c.pair.ensures.0 at c.is_lda.ensures) ∙ c.if-not-is_lda.true))

pub returns-then-not-is_lda-2 : goal.returns-then-not-is_lda-2
unfolding part_good end_of
returns-then-not-is_lda-2 c = let z = c.lda_block-e.ensures.0 ∙ ap (lda_block _) c.pair-x.ensures.0 in sym (every_no _ 3 (sym (rw (z, c.pair-x.ensures.0) at c.is_lda-2.ensures) ∙ c.if-not-is_lda-2.true))

pub returns-then-e-s : goal.returns-then-e-s
unfolding part_good end_of
returns-then-e-s c = let z = c.lda_block-e.ensures.0 ∙ ap (lda_block _) c.pair-x.ensures.0 in sym (every_no _ 4 (le-ltb _ _ (rw z at c.if-e-s.true)))

pub returns-then-n-e : goal.returns-then-n-e
unfolding part_good end_of
returns-then-n-e c = let z = c.lda_block-e.ensures.0 ∙ ap (lda_block _) c.pair-x.ensures.0 in sym (every_no _ 5 (le-ltb _ _ (rw z at c.if-n-e.true)))

pub returns : goal.returns
unfolding part_good end_of every
returns c = let z = c.lda_block-e.ensures.0 ∙ ap (lda_block _) c.pair-x.ensures.0 in rw (z, le-leb _ _ c.if-s-lt1.false, lt-ltb _ _ c.if-n-s.false, sym (rw c.pair.ensures.0 at c.is_lda.ensures) ∙ c.if-not-is_lda.false, sym (rw (z, c.pair-x.ensures.0) at c.is_lda-2.ensures) ∙ c.if-not-is_lda-2.false, lt-ltb _ _ (rw z at c.if-e-s.false), lt-ltb _ _ (rw z at c.if-n-e.false)) (sym (and_true _))
