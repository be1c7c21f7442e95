use mathlib.Core.Path.{◌∙◌}
use Rattle.perq.specs.Fits.{shown_pair_fits}
use Rattle.perq.proofs.reads.perq_show_pair.Goals as goal

pub flat_from-requires : goal.flat_from-requires
flat_from-requires c = rw c.show_pair_answer-x.ensures (shown_pair_fits _ _ _ _ _ _)

pub returns : goal.returns
returns c = c.flat_from.ensures ∙ rw (c.show_pair_answer-x.ensures)
