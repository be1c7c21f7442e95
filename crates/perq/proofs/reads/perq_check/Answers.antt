use mathlib.Core.Path.{◌∙◌}
use native.Mathlib.Omega.{arith}
use Rattle.perq.specs.Fits.{checked_fits}
use Rattle.perq.proofs.reads.perq_check.Goals as goal

pub flat-requires : goal.flat-requires
flat-requires c = (omega arith, rw c.check.ensures (checked_fits _ _ _))

pub returns : goal.returns
returns c = c.flat.ensures ∙ rw (c.check.ensures)
