use borrow.Author.Tests.{lt-ltb, le-ltb}
use Rattle.base.specs.Tests.{both}
use Rattle.drive.proofs.place.in_range.Goals as goal

pub returns-then-sector-sectors-clause-value : goal.returns-then-sector-sectors-clause-value
unfolding both
returns-then-sector-sectors-clause-value c = rw (lt-ltb _ _ c.if-track-tracks.true, lt-ltb _ _ c.if-sector-sectors.true)

pub returns-else-sector-sectors-clause-value : goal.returns-else-sector-sectors-clause-value
unfolding both
returns-else-sector-sectors-clause-value c = rw (lt-ltb _ _ c.if-track-tracks.true, le-ltb _ _ c.if-sector-sectors.false)

pub returns-else-track-tracks-clause-value : goal.returns-else-track-tracks-clause-value
unfolding both
returns-else-track-tracks-clause-value c = rw (le-ltb _ _ c.if-track-tracks.false)
