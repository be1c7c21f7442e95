use mathlib.Core.Path.{sym}
use Rattle.volume.specs.Writes.{put2_if}
use Rattle.append.proofs.entry_if.Goals as goal

pub returns-then-on : goal.returns-then-on
unfolding put2_if
returns-then-on c = rw (put2_if, c.if-on.true, sym c.slot.ensures.0, sym c.lda.ensures.0) c.with_pair.ensures

pub returns : goal.returns
unfolding put2_if
returns c = rw (put2_if, c.if-on.false)
