use Rattle.volume.specs.Plans.{fib_gone}
use Rattle.records.proofs.Laws.{stands}
use Rattle.erase.proofs.fib_save.Goals as goal

pub returns-then-alone : goal.returns-then-alone
unfolding fib_gone
returns-then-alone c = stands (rw (fib_gone, c.if-alone.true, c.saved.ensures.0, c.top_gone.ensures)) c.saved.ensures.1 c.requires.0

pub returns : goal.returns
unfolding fib_gone
returns c = stands (rw (fib_gone, c.if-alone.false, c.saved-2.ensures.0, c.with_pair.ensures, c.«record».ensures)) c.saved-2.ensures.1 c.requires.0
