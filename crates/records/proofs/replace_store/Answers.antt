use Rattle.volume.specs.Plans.{stores}
use Rattle.records.specs.Records.{replaced}
use Rattle.records.proofs.replace_store.Goals as goal

pub returns : goal.returns
unfolding stores replaced
returns c = rw (c.saved-data.ensures.0, c.with_data.ensures, c.«record».ensures) at c.perform.ensures
