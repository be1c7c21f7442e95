use Rattle.directory.proofs.Laws.{file_opened}
use Rattle.directory.proofs.Directories.enter.Goals as goal

pub invariant_of-file : goal.invariant_of-file
invariant_of-file c = record { opened = file_opened _ _ c.args.self.now.volume.lies _ c.requires }
