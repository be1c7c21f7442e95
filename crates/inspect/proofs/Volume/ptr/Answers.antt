use mathlib.Core.Path.{sym, ◌∙◌}
use native.Mathlib.Omega.{arith}
use Rattle.inspect.proofs.Laws.{spot_held}
use Rattle.inspect.proofs.Volume.ptr.Goals as goal

pub returns : goal.returns
returns c =
    let h = c.requires in (c.entry_block.ensures.0 ∙ sym (spot_held _ _ _ _ (λ z. omega (arith, z, h.2)) c.holder.ensures.0), c.entry_block.ensures.1)
