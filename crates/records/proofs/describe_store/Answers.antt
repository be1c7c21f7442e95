use Rattle.volume.specs.Plans.{stores}
use Rattle.records.specs.Records.{described}
use Rattle.records.proofs.describe_store.Goals as goal

pub returns : goal.returns
unfolding stores described
returns c = rw (c.saved-fib.ensures.0, c.with_text.ensures, c.«record».ensures) at c.perform.ensures
