use mathlib.Core.Path.{◌∙◌}
use native.Mathlib.Omega.{arith}
use Rattle.perq.specs.Named.{treed_fits}
use Rattle.perq.proofs.directories.perq_tree.Goals as goal

pub flat-requires : goal.flat-requires
flat-requires c = (omega arith, rw c.tree.ensures.0 (treed_fits _ _ _ _ _))

pub returns : goal.returns
returns c = (c.flat.ensures ∙ rw (c.tree.ensures.0), c.tree.ensures.1)
