use Rattle.std.proofs.Common.{◌+◌, ◌*◌, ◌-◌, bit_or, refl, rules, tests}
use Rattle.std.proofs.lemmas.Iterator.{YieldsList-from_range}
use Rattle.std.proofs.lemmas.Iterator.Consumers.{fold_from_yields_List}
use Rattle.image.specs.View.{pair}
use Rattle.image.specs.Image.{view}
use Rattle.inspect.proofs.Ways.{nils_are}
use Rattle.inspect.proofs.form.nil_from.Goals as goal

pub returns : goal.returns
returns c =
    let a = c.args in let v = view a.img.now in
    nils_are v a.f a.w a.k a.n (fold_from_yields_List _ (λ b i. bit_or b (pair v a.f (a.w + 2 * i))) _ _ c.fold.ensures.ran (YieldsList-from_range a.k a.n (a.n - a.k) refl refl) (λ b x r q k. search (rules, tests)))
