use Rattle.change.proofs.Laws.{free_next}
use Rattle.write.proofs.Laws.{left_is}
use Rattle.write.proofs.left.Goals as goal

pub returns : goal.returns
returns c = left_is _ _ 3 _ _ (free_next _ _ 2 _ _ c.requires.3 c.next.ensures) c.if-m-lt3.false c.requires.1
