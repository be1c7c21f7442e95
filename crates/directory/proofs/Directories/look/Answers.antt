use Rattle.directory.specs.Paths.{look_next}
use Rattle.directory.proofs.Directories.look.Goals as goal

pub loop-d-preserved : goal.loop-d-preserved
loop-d-preserved c = look_next c.loop-d.invariant c.loop-d-test.true c.part_end-end.ensures.0 c.enter.ensures c.in-Some.is c.if-path-end.false c.in-Directory.is
