use Rattle.image.proofs.Laws.{blank_rec}
use Rattle.image.proofs.blank.Goals as goal

pub returns : goal.returns
returns c = blank_rec
