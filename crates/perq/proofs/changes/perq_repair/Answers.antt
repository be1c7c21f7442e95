use Rattle.volume.specs.Calls.{repair}
use Rattle.perq.specs.Fits.{made_fits, answered_fits, changed}
use Rattle.perq.proofs.changes.perq_repair.Goals as goal

pub flat-requires : goal.flat-requires
flat-requires c = (made_fits c.ranges.limit.fits c.repair-x.ensures, answered_fits _ _ _ repair c.repair-x.ensures)

pub returns : goal.returns
returns c = changed (c.repair-x.ensures) c.flat.ensures
