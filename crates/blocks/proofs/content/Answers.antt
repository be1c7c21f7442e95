use mathlib.Core.Path.{ap, ◌∙◌}
use Rattle.volume.specs.Plans.{trimmed}
use Rattle.blocks.specs.Records.{shaped_pointer, shaped_other}
use Rattle.blocks.proofs.content.Goals as goal

pub returns-then-k-lt-HOME : goal.returns-then-k-lt-HOME
returns-then-k-lt-HOME c = c.trimmed.ensures ∙ ap (trimmed _ _) c.record-x.ensures ∙ shaped_pointer _ _ _ c.if-k-lt-HOME.true

pub returns : goal.returns
returns c = c.record-x.ensures ∙ shaped_other _ _ _ c.if-k-lt-HOME.false
