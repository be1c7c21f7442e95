use Rattle.volume.specs.Calls.{destroy}
use Rattle.perq.specs.Fits.{made_fits, answered_fits, changed}
use Rattle.perq.proofs.changes.perq_destroy.Goals as goal

pub flat-requires : goal.flat-requires
flat-requires c = (made_fits c.ranges.limit.fits c.destroy-x.ensures, answered_fits _ _ _ (destroy _) c.destroy-x.ensures)

pub returns : goal.returns
returns c = changed (c.destroy-x.ensures) c.flat.ensures
