use mathlib.Core.Path.{sym, ◌∙◌}
use Rattle.base.specs.Tests.{both}
use Rattle.volume.specs.Files.{is_file}
use Rattle.volume.proofs.Readings.{candidate_in}
use Rattle.inspect.proofs.Volume.is_file.Goals as goal

pub well_formed-requires : goal.well_formed-requires
well_formed-requires c = (candidate_in _ _ _ (sym c.candidate.ensures ∙ c.if-candidate.true)).1

pub returns-then-candidate : goal.returns-then-candidate
unfolding is_file both
returns-then-candidate c = rw (sym c.candidate.ensures ∙ c.if-candidate.true, is_file, both) c.well_formed-then-candidate.ensures

pub returns-else-candidate : goal.returns-else-candidate
unfolding is_file both
returns-else-candidate c = rw (sym c.candidate.ensures ∙ c.if-candidate.false, is_file, both)
