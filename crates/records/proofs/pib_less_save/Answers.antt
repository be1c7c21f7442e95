use Rattle.volume.specs.Plans.{pib_less}
use Rattle.records.proofs.Laws.{stands}
use Rattle.records.proofs.pib_less_save.Goals as goal

pub returns : goal.returns
unfolding pib_less
returns c = stands (rw (c.saved.ensures.0, c.with_pair.ensures, c.address-head.ensures.0, c.pair-2.ensures.0, c.with_pair-x.ensures, c.«record».ensures, c.saturating_sub-m.ensures, c.pair.ensures.0)) c.saved.ensures.1 c.requires.0
