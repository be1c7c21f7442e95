use Rattle.volume.specs.Plans.{pib_more}
use Rattle.records.proofs.Laws.{stands}
use Rattle.erase.proofs.pib_more_save.Goals as goal

pub returns : goal.returns
unfolding pib_more
returns c = stands (rw (c.saved.ensures.0, c.with_pair.ensures, c.address-tail.ensures.0, c.pair-2.ensures.0, c.with_pair-x.ensures, c.«record».ensures, c.pair.ensures.0)) c.saved.ensures.1 c.requires.0
