use mathlib.Core.Path.{◌∙◌}
use native.Mathlib.Omega.{arith}
use Rattle.inspect.proofs.Laws.{read_bits, read_is, read_home, read_holder, read_near, held_near}
use Rattle.inspect.proofs.Volume.at_key.Goals as goal

pub returns-then-k-eq-HOME : goal.returns-then-k-eq-HOME
returns-then-k-eq-HOME c =
    read_home c.requires.0 _ c.if-k-eq-HOME.true

pub returns-then-k-le355 : goal.returns-then-k-le355
returns-then-k-le355 c =
    let h = c.requires in
    let k = c.if-k-le-HOME.false in
    read_is h.0 _ _ h.1 (c.read.ensures ∙ read_bits h.0 _ h.1 (λ z. omega (arith, z, k)) (held_near _ _ _ _ (omega (arith, k)) (omega (arith, c.if-k-le355.true))))

pub read-requires-3 : goal.read-requires-3
read-requires-3 c =
    let h = c.requires in
    let z = rw (← read_near h.0 _ h.1 c.if-k-le355.false c.if-k-gt4451.false c.up.ensures.0 c.read-2.ensures) at (read_holder h.0 _ h.1) in
    (omega (arith, h.0.lies.within, z), omega (arith, c.if-k-gt4451.false))

pub returns : goal.returns
returns c =
    let h = c.requires in
    let k = c.if-k-le355.false in
    read_is h.0 _ _ h.1 (c.read-3.ensures ∙ read_bits h.0 _ h.1 (λ z. omega (arith, z, k)) (read_near h.0 _ h.1 k c.if-k-gt4451.false c.up.ensures.0 c.read-2.ensures))
