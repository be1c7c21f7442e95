use mathlib.Core.Path.{◌∙◌}
use native.Mathlib.Omega.{arith}
use Rattle.perq.specs.Fits.{described_as_fits}
use Rattle.perq.proofs.reads.perq_description.Goals as goal

pub flat-requires : goal.flat-requires
flat-requires c = (omega arith, rw c.description.ensures.0 (described_as_fits _ _ _ _ _))

pub returns : goal.returns
returns c = (c.flat.ensures ∙ rw (c.description.ensures.0), c.description.ensures.1)
