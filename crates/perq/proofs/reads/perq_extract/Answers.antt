use mathlib.Core.Path.{◌∙◌}
use native.Mathlib.Omega.{arith}
use Rattle.perq.specs.Fits.{extracted_fits}
use Rattle.perq.proofs.reads.perq_extract.Goals as goal

pub flat-requires : goal.flat-requires
flat-requires c = (omega arith, rw c.extract.ensures.0 (extracted_fits _ _ _ _ _))

pub returns : goal.returns
returns c = (c.flat.ensures ∙ rw (c.extract.ensures.0), c.extract.ensures.1)
