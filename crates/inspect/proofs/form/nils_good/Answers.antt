use mathlib.Core.Path.{sym, ◌∙◌}
use Rattle.volume.proofs.Steps.{every_no}
use Rattle.inspect.specs.Form.{nils_good}
use Rattle.inspect.proofs.Ways.{every_last}
use Rattle.inspect.proofs.form.nils_good.Goals as goal

pub returns-then-not-nil_from : goal.returns-then-not-nil_from
unfolding nils_good
returns-then-not-nil_from c =
    sym (every_no _ 0 (sym c.nil_from.ensures ∙ c.if-not-nil_from.true))

pub returns-then-not-nil_from-2 : goal.returns-then-not-nil_from-2
unfolding nils_good
returns-then-not-nil_from-2 c =
    sym (every_no _ 1 (sym (rw (c.saturating_sub.ensures, c.low.ensures.0) at c.nil_from-2.ensures) ∙ c.if-not-nil_from-2.true))

pub returns-then-not-double_good : goal.returns-then-not-double_good
unfolding nils_good
returns-then-not-double_good c =
    sym (every_no _ 2 (sym c.double_good.ensures ∙ c.if-not-double_good.true))

pub returns : goal.returns
unfolding nils_good
returns c =
    c.double_good-2.ensures ∙ every_last _ _ _ _ (sym c.nil_from.ensures ∙ c.if-not-nil_from.false) (sym (rw (c.saturating_sub.ensures, c.low.ensures.0) at c.nil_from-2.ensures) ∙ c.if-not-nil_from-2.false) (sym c.double_good.ensures ∙ c.if-not-double_good.false)
