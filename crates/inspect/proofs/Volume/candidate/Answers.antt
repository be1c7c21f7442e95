use mathlib.Core.Path.{sym, ◌∙◌}
use borrow.Author.Tests.{lt-ltb, le-ltb, le-leb, lt-leb}
use Rattle.base.specs.Tests.{both, every}
use Rattle.volume.specs.Files.{inside, candidate}
use Rattle.volume.proofs.Steps.{every_no, both_no, both_no_2, and_true}
use Rattle.inspect.proofs.Volume.candidate.Goals as goal

pub returns-then-f-self : goal.returns-then-f-self
unfolding candidate inside
returns-then-f-self c = sym (every_no _ 0 (both_no _ _ (le-ltb _ _ c.if-f-self.true)))

pub returns-then-self-f : goal.returns-then-self-f
unfolding candidate inside
returns-then-self-f c = sym (every_no _ 0 (both_no_2 _ _ (lt-leb _ _ c.if-self-f.true)))

pub returns-then-not-has_number : goal.returns-then-not-has_number
unfolding candidate
returns-then-not-has_number c = sym (every_no _ 2 (sym c.has_number.ensures ∙ c.if-not-has_number.true))

pub returns : goal.returns
unfolding candidate inside both every
returns c = c.is_pda.ensures ∙ rw (lt-ltb _ _ c.if-f-self.false, le-leb _ _ c.if-self-f.false, sym c.has_number.ensures ∙ c.if-not-has_number.false, c.pair.ensures.0) (sym (and_true _))
