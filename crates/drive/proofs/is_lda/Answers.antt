use Rattle.drive.specs.Address.{is_lda}
use Rattle.drive.proofs.is_lda.Goals as goal

pub returns : goal.returns
unfolding is_lda
returns c = rw c.lda.ensures.0
