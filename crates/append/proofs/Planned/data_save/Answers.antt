use mathlib.Core.Path.{◌∙◌}
use Rattle.volume.specs.Writes.{over}
use Rattle.append.proofs.Laws.{body_data}
use Rattle.append.proofs.Planned.data_save.Goals as goal

pub returns : goal.returns
unfolding over
returns c = c.key_save.ensures _ (c.with_data-x.ensures ∙ body_data c.args.self.now.appends _ _ (c.stamp.ensures _))
