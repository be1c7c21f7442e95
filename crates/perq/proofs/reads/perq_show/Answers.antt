use mathlib.Core.Path.{◌∙◌}
use native.Mathlib.Omega.{arith}
use Rattle.perq.specs.Fits.{shown_fits}
use Rattle.perq.proofs.reads.perq_show.Goals as goal

pub flat-requires : goal.flat-requires
flat-requires c = (omega arith, rw c.show_answer.ensures (shown_fits _ _ _ _ _))

pub returns : goal.returns
returns c = c.flat.ensures ∙ rw (c.show_answer.ensures)
