use mathlib.Core.Path.{sym, ◌∙◌}
use Rattle.volume.proofs.Steps.{both_no, both_no_2}
use Rattle.inspect.proofs.Laws.{wf_opened}
use Rattle.verify.proofs.Surveys.{stands_faulty, stands_file}
use Rattle.verify.proofs.stands.Goals as goal

pub returns-then-not-well_formed : goal.returns-then-not-well_formed
returns-then-not-well_formed c = stands_faulty _ _ _ (both_no _ _ (sym c.well_formed-2.ensures ∙ c.if-not-well_formed.true))

pub invariant_of-file : goal.invariant_of-file
invariant_of-file c = record { opened = wf_opened _ c.args.volume.now.lies c.requires (sym c.well_formed-2.ensures ∙ c.if-not-well_formed.false) }

pub returns-then-linked : goal.returns-then-linked
returns-then-linked c = stands_file _ _ _ (sym c.well_formed-2.ensures ∙ c.if-not-well_formed.false) (sym c.linked.ensures ∙ c.if-linked.true) c.len.ensures.0 c.size_of.ensures.0

pub returns-else-linked : goal.returns-else-linked
returns-else-linked c = stands_faulty _ _ _ (both_no_2 _ _ (sym c.linked.ensures ∙ c.if-linked.false))
