use Rattle.volume.specs.Calls.{create}
use Rattle.perq.specs.Fits.{made_fits, answered_fits, changed}
use Rattle.perq.proofs.changes.perq_create.Goals as goal

pub flat-requires : goal.flat-requires
flat-requires c = (made_fits c.ranges.limit.fits c.create-x.ensures, answered_fits _ _ _ (create _) c.create-x.ensures)

pub returns : goal.returns
returns c = changed (c.create-x.ensures) c.flat.ensures
