use mathlib.Core.Path.{sym, ◌∙◌}
use borrow.Author.Rules.{rules}
use Rattle.volume.proofs.Readings.{candidate_in}
use Rattle.inspect.proofs.Laws.{wf_opened}
use Rattle.inspect.proofs.Volume.file.Goals as goal

pub well_formed-requires : goal.well_formed-requires
well_formed-requires c = (candidate_in _ _ _ (sym c.candidate.ensures ∙ c.if-not-candidate.false)).1

pub invariant_of-result : goal.invariant_of-result
invariant_of-result c = record {
  opened = wf_opened _ (search rules) (candidate_in _ _ _ (sym c.candidate.ensures ∙ c.if-not-candidate.false)).1 (sym c.well_formed-2.ensures ∙ c.if-not-well_formed.false);
}
