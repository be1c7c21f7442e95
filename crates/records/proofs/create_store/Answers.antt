use Rattle.volume.specs.Plans.{stores, new_first}
use Rattle.records.specs.Records.{created}
use Rattle.records.proofs.Laws.{one}
use Rattle.records.proofs.create_store.Goals as goal

pub returns : goal.returns
unfolding stores created new_first
returns c = rw (one c.fresh_save-fib.ensures, one c.first_save-first.ensures, one c.pib_less_save-pib.ensures) at c.perform.ensures
