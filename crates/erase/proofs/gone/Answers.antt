use Rattle.volume.specs.Plans.{gone}
use Rattle.erase.proofs.gone.Goals as goal

pub returns : goal.returns
unfolding gone
returns c = rw (c.with_pair.ensures, c.with_word-x.ensures, c.«record».ensures)
