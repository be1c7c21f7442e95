use Rattle.std.specs.Prelude.{◌-◌}
use Rattle.std.proofs.Common.{◌∙◌, arith, rules, tests}
use Rattle.image.specs.Image.{view}
use Rattle.base.proofs.Chains.{find_from}
use Rattle.volume.specs.Files.{is_malformed}
use Rattle.volume.specs.Answers.{lowest_malformed}
use Rattle.inspect.proofs.Ways.{find_lowest}
use Rattle.inspect.proofs.Volume.lowest_malformed.Goals as goal

pub returns : goal.returns
unfolding lowest_malformed
returns c =
    let π = c.args.self.now.p in
    find_from (is_malformed π (view c.args.self.now.img.now)) _ _ _ _ c.find.ensures.ran (λ x b q k. search (rules, tests)) {n = π.e - π.s} (omega arith) ∙ find_lowest _ _ _
