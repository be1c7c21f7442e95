use native.Mathlib.Omega.{arith}
use borrow.Author.Rules.{rules}
use mathlib.Core.Path.{sym, ap, ◌∙◌}
use Rattle.volume.specs.Files.{spot}
use Rattle.volume.proofs.KeyLaws.{up_far}
use Rattle.inspect.proofs.Laws.{held_near, spot_held}
use Rattle.inspect.proofs.Volume.holder.Goals as goal

pub returns-then-k-gt256 : goal.returns-then-k-gt256
returns-then-k-gt256 c =
    let h = c.requires in (held_near _ _ _ _ c.if-k-gt256.true (omega (arith, h.2)), search rules)

pub returns : goal.returns
returns c =
    let h = c.requires in
    let u = c.up.ensures.0 in
    let w = up_far _ c.if-k-gt256.false in
    (c.entry_block.ensures.0 ∙ sym (spot_held _ _ _ c.up.result (λ z. omega (arith, z, u, w, h.1)) (held_near _ _ _ _ (omega (arith, u, w)) (omega (arith, u, w)))) ∙ ap (spot _ _ _) u, c.entry_block.ensures.1)
