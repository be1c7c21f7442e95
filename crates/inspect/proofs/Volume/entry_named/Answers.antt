use Rattle.volume.proofs.KeyLaws.{number_small}
use Rattle.inspect.proofs.Signs.{passed_word, passed_fits}
use Rattle.inspect.proofs.Volume.entry_named.Goals as goal

pub names-requires : goal.names-requires
names-requires c = passed_fits _ _ (record { sfits = c.number_of.type_inv }) c.number_of.ensures

pub returns : goal.returns
returns c = rw (passed_word _ _ (record { sfits = c.number_of.type_inv }) c.number_of.ensures (number_small _), c.pair-x.ensures.0) at c.names.ensures
