use Rattle.volume.specs.Plans.{fresh_fib}
use Rattle.records.proofs.Laws.{stands}
use Rattle.records.proofs.fresh_save.Goals as goal

pub returns : goal.returns
unfolding fresh_fib
returns c = stands (rw (c.saved.ensures.0, c.with_pair.ensures, c.pda.ensures.0, c.with_signed-x-3.ensures, c.with_word-x-3.ensures, c.word.ensures.0, c.with_word-x-2.ensures, c.with_word-x.ensures, c.with_signed-x-2.ensures, c.with_pair-x-2.ensures, c.with_signed-x.ensures, c.with_pair-x.ensures, c.blank.ensures, c.lda-own.ensures.0)) c.saved.ensures.1 c.requires.0
