use mathlib.Core.Path.{◌∙◌}
use native.Mathlib.Omega.{arith}
use Rattle.perq.specs.Named.{look_up_fits}
use Rattle.perq.proofs.directories.perq_look_up.Goals as goal

pub flat-requires : goal.flat-requires
flat-requires c = (omega arith, rw c.look_up.ensures (look_up_fits _ _ _ _ _))

pub returns : goal.returns
returns c = c.flat.ensures ∙ rw (c.look_up.ensures)
