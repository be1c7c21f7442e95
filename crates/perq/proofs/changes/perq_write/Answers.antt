use Rattle.volume.specs.Calls.{write}
use Rattle.perq.specs.Fits.{made_fits, answered_fits, changed}
use Rattle.perq.proofs.changes.perq_write.Goals as goal

pub flat-requires : goal.flat-requires
flat-requires c = (made_fits c.ranges.limit.fits c.write-x.ensures, answered_fits _ _ _ (write _ _ _) c.write-x.ensures)

pub returns : goal.returns
returns c = changed (c.write-x.ensures) c.flat.ensures
