use Rattle.volume.specs.Plans.{gone, top_gone}
use Rattle.erase.proofs.top_gone.Goals as goal

pub returns : goal.returns
unfolding top_gone gone
returns c = rw (c.with_pair.ensures, c.gone.ensures, c.pda.ensures.0)
