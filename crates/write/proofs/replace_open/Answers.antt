use Rattle.change.proofs.Laws.{answered_done, file_opened}
use Rattle.write.proofs.Laws.{write_replace}
use Rattle.write.proofs.replace_open.Goals as goal

pub invariant_of-file : goal.invariant_of-file
invariant_of-file c = record { opened = file_opened c.requires.0 _ c.requires.1 }

pub returns : goal.returns
returns c = answered_done _ (write_replace _ _ _ _ _ c.requires.1 _ c.requires.2 c.requires.3 c.name-b.ensures.0) c.replace_store.ensures c.done.ensures
