use mathlib.Core.Path.{◌∙◌}
use native.Mathlib.Omega.{arith}
use Rattle.perq.specs.Fits.{read_fits}
use Rattle.perq.proofs.reads.perq_read.Goals as goal

pub flat-requires : goal.flat-requires
flat-requires c = (omega arith, rw c.read.ensures.0 (read_fits _ _ _ _ _ _))

pub returns : goal.returns
returns c = (c.flat.ensures ∙ rw (c.read.ensures.0), c.read.ensures.1)
