use Rattle.volume.specs.Plans.{stores, gone, last_gone_stores, destroyed}
use Rattle.records.proofs.Laws.{one}
use Rattle.erase.proofs.destroy_store.Goals as goal

pub returns : goal.returns
unfolding stores destroyed last_gone_stores gone
returns c = rw (one c.fib_save-fib.ensures, c.top_save-low.ensures.list, c.last_save-end.ensures.list, one c.tail_save-joint.ensures, one c.pib_more_save-pib.ensures) at c.perform.ensures
