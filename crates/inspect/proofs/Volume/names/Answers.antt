use mathlib.Core.Path.{refl, sym, ◌∙◌}
use borrow.Author.Tests.{lt-ltb, le-ltb, le-leb, lt-leb}
use Rattle.base.specs.Tests.{both, every}
use Rattle.drive.proofs.Names.{lda_here}
use Rattle.volume.specs.Files.{inside}
use Rattle.volume.proofs.Steps.{every_no, both_no, both_no_2, ne_of, eq_of, and_true}
use Rattle.inspect.specs.Form.{names}
use Rattle.inspect.proofs.Signs.{self}
use Rattle.inspect.proofs.Volume.names.Goals as goal

pub returns-then-b-self : goal.returns-then-b-self
unfolding names inside
returns-then-b-self c = sym (every_no _ 1 (both_no _ _ (le-ltb _ _ (rw c.lda_block-b.ensures.0 at c.if-b-self.true))))

pub returns-then-self-b : goal.returns-then-self-b
unfolding names inside
returns-then-self-b c = sym (every_no _ 1 (both_no_2 _ _ (lt-leb _ _ (rw c.lda_block-b.ensures.0 at c.if-self-b.true))))

pub returns-then-pair-own : goal.returns-then-pair-own
unfolding names
returns-then-pair-own c = sym (every_no _ 2 (ne_of (rw c.lda_block-b.ensures.0 at c.pair.ensures.0) refl c.if-pair-own.true))

pub returns : goal.returns
unfolding names inside both every
returns c =
    let z = c.lda_block-b.ensures.0 in
    let s = rw z at c.if-b-self.false in
    rw (lda_here _ _ s, lt-ltb _ _ s, le-leb _ _ (rw z at c.if-self-b.false), eq_of (rw z at c.pair.ensures.0) refl c.if-pair-own.false) (rw (self _ c.requires) at c.has_number.ensures ∙ rw z (sym (and_true _)))
