use mathlib.Core.Path.{sym, ◌∙◌}
use borrow.Author.Tests.{eqb-false, not-true}
use Rattle.base.specs.Laws.{and_right}
use Rattle.growth.specs.Grown.{body_inner}
use Rattle.append.proofs.Row.{stands_on, stands_off}
use Rattle.append.proofs.Planned.inner_save.Goals as goal

pub returns-then-on-k : goal.returns-then-on-k
returns-then-on-k c = λ dat. stands_on _ c.args.on c.args.k c.if-on-k.true (c.key_save.ensures dat (c.entered.ensures dat ∙ sym (body_inner _ _ _ _ dat _ (eqb-false _ _ (not-true _ (and_right c.args.on _ c.if-on-k.true))))))

pub returns : goal.returns
returns c = λ dat. stands_off _ c.args.on c.args.k c.if-on-k.false
