use Rattle.std.proofs.Common.{rules}
use Rattle.blocks.specs.Records.{filled_with}
use Rattle.blocks.proofs.cleared.Goals as goal

pub returns : goal.returns
returns c = filled_with c.args.r c.args.w (search rules) c.requires (c.fill.ensures.after (λ y h. search rules)) (search rules)
