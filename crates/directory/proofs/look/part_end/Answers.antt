use Rattle.std.proofs.Common.{◌∙◌, sym, ap, drop, length, eqb, ◌+◌, ◌-◌, refl, le_refl, rules, tests}
use Rattle.std.specs.Prelude.{unwrap_or}
use Rattle.std.proofs.lemmas.Slice.{between_to_end}
use Rattle.std.proofs.lemmas.Iterator.{YieldsList-from_slice}
use Rattle.std.proofs.lemmas.Iterator.Search.{position_from_yields_List}
use Rattle.base.proofs.Chains.{position_or}
use Rattle.directory.specs.Paths.{part_ends}
use Rattle.directory.proofs.look.part_end.Goals as goal

pub returns : goal.returns
returns c =
    let a = c.args in let xs = drop a.p a.path.now in
    let rest = between_to_end a.path.now a.p (length a.path.now) (le_refl _) in
    let at = position_or (λ x. eqb x 62) xs (position_from_yields_List (λ x. eqb x 62) c.position.new.self _ _ c.position.ensures.ran
    (YieldsList-from_slice xs (c.iter.ensures.rest ∙ rest)) (λ x b q k. search (rules, tests))) in
    (ap (λ n. a.p + n) (c.unwrap_or.ensures ∙ ap (λ ys. unwrap_or c.position.result (length ys)) rest ∙ at) ∙ sym (part_ends a.path.now (length a.path.now - a.p) a.p refl), search rules, search rules)
