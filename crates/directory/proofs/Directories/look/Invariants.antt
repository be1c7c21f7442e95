use Rattle.directory.specs.Directory as defs
use Rattle.directory.specs.Paths.{Looking}
use Rattle.directory.proofs.Directories.look.Given as goal

abbrev pub invariant-loop-d : goal.invariant-loop-d
invariant-loop-d l = Looking l.self.volume.p l.self.volume.img.now (defs.selected l.self.rule.weights.now) l.path l.d l.at l.f (defs.look l.self.volume.p l.self.volume.img.now (defs.selected l.self.rule.weights.now) 9 l.path 0 l.root)
