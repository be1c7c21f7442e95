use Rattle.volume.specs.Calls.{describe}
use Rattle.perq.specs.Fits.{made_fits, answered_fits, changed}
use Rattle.perq.proofs.changes.perq_describe.Goals as goal

pub flat-requires : goal.flat-requires
flat-requires c = (made_fits c.ranges.limit.fits c.describe-x.ensures, answered_fits _ _ _ (describe _ _) c.describe-x.ensures)

pub returns : goal.returns
returns c = changed (c.describe-x.ensures) c.flat.ensures
