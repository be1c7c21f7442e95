use mathlib.Core.Path.{sym, ◌∙◌}
use native.Mathlib.Omega.{arith}
use Rattle.volume.proofs.KeyLaws.{number_small}
use Rattle.inspect.proofs.Signs.{passed_word, passed_fits}
use Rattle.inspect.proofs.Laws.{named_held}
use Rattle.inspect.proofs.Volume.ptr_named.Goals as goal

pub names-requires : goal.names-requires
names-requires c =
    passed_fits _ _ (record { sfits = c.number_of.type_inv }) c.number_of.ensures

pub returns : goal.returns
returns c =
    let h = c.requires in rw (passed_word _ _ (record { sfits = c.number_of.type_inv }) c.number_of.ensures (number_small _), c.pair-x.ensures.0, c.slot.ensures.0, h.1) at c.names.ensures ∙ sym (named_held _ _ _ _ (λ z. omega (arith, z, h.3)) c.holder.ensures.0)
