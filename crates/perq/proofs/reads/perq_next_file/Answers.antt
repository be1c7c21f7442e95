use mathlib.Core.Path.{◌∙◌}
use native.Mathlib.Omega.{arith}
use Rattle.perq.specs.Fits.{next_file_fits}
use Rattle.perq.proofs.reads.perq_next_file.Goals as goal

pub flat-requires : goal.flat-requires
flat-requires c = (omega arith, rw c.next_file.ensures (next_file_fits _ _ _ _))

pub returns : goal.returns
returns c = c.flat.ensures ∙ rw (c.next_file.ensures)
