use Rattle.std.proofs.Common.{◌∙◌, ap, arith, rules, tests}
use Rattle.std.specs.Prelude.{unwrap_or}
use Rattle.image.specs.Image.{view}
use Rattle.base.proofs.Chains.{find_from, find_those}
use Rattle.repair.specs.Mending.{is_free}
use Rattle.repair.proofs.unowned_from.Goals as goal

pub returns : goal.returns
returns c =
    let p = is_free c.args.clean.now.volume.p (view c.args.clean.now.volume.img.now) in
    c.unwrap_or.ensures ∙ ap (λ r. unwrap_or r 0) (find_from p _ _ _ _ c.find.ensures.ran (λ x b q k. search (rules, tests)) (omega arith)) ∙ find_those p 0 _ _
