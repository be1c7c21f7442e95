use Rattle.volume.specs.Plans.{new_first}
use Rattle.records.proofs.Laws.{stands}
use Rattle.records.proofs.first_save.Goals as goal

pub returns : goal.returns
unfolding new_first
returns c = stands (rw (c.saved.ensures.0, c.with_pair.ensures, c.with_word-x.ensures, c.«record».ensures)) c.saved.ensures.1 c.requires
