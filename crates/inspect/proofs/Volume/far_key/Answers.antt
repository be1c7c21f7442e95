use mathlib.Core.Path.{◌∙◌}
use native.Mathlib.Omega.{arith}
use Rattle.inspect.proofs.Laws.{read_few, read_bits, read_is}
use Rattle.inspect.proofs.Volume.far_key.Goals as goal

pub read-requires : goal.read-requires
read-requires c =
    let h = c.requires in (omega (arith, h.0.lies.within, c.holder_of.ensures.1), omega (arith, (read_few h.0 _ h.1).1))

pub returns : goal.returns
returns c =
    let h = c.requires in read_is h.0 _ _ h.1 (c.read.ensures ∙ read_bits h.0 _ h.1 h.2 c.holder_of.ensures.0)
