use mathlib.Core.Path.{sym, ◌∙◌}
use Rattle.volume.proofs.KeyLaws.{number_small}
use Rattle.inspect.proofs.Signs.{passed_word, passed_fits}
use Rattle.inspect.proofs.Laws.{named_direct}
use Rattle.inspect.proofs.Volume.direct_named.Goals as goal

pub names-requires : goal.names-requires
names-requires c = passed_fits _ _ (record { sfits = c.number_of.type_inv }) c.number_of.ensures

pub returns : goal.returns
returns c = rw (passed_word _ _ (record { sfits = c.number_of.type_inv }) c.number_of.ensures (number_small _), c.pair-x.ensures.0, c.requires.1) at c.names.ensures ∙ sym (named_direct _ _ _ _ c.requires.2)
