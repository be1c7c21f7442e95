use mathlib.Core.Path.{◌∙◌}
use native.Mathlib.Omega.{arith}
use Rattle.drive.specs.Ranges.{place_block}
use Rattle.drive.proofs.block_of.Goals as goal

pub returns : goal.returns
returns c =
    let p = c.place.ensures in
    (c.saturating_sub.ensures ∙ place_block _ _ p.0 c.boot.ensures.0, omega (arith, c.saturating_sub.ensures, p.1))
