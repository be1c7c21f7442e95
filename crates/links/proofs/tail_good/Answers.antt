use Rattle.std.proofs.Common.{rules, tests}
use Rattle.image.specs.Image.{view}
use Rattle.base.proofs.Chains.{all_from}
use Rattle.links.proofs.Walk.{tail_asked, tail_rest}
use Rattle.links.proofs.tail_good.Goals as goal

pub returns : goal.returns
returns c =
    let a = c.args in let v = view a.img.now in let e = c.entries_of.ensures in let l = c.requires.2 in
    all_from _ _ _ _ _ _ c.all.ensures.ran (tail_asked v a.n a.k a.q l e.0 e.1) (tail_rest v a.n a.k a.q l e.0 e.1) (λ x b q k. search (rules, tests))
