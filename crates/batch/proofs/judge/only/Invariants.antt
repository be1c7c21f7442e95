-- The good one of the blocks looked at, and those ahead, have the whole's answer.
use Rattle.std.proofs.Common.{◌/◌, length}
use Rattle.batch.proofs.Laws.{Ahead}
use Rattle.batch.proofs.judge.only.Given as goal

abbrev pub invariant-loop-s : goal.invariant-loop-s
invariant-loop-s l = Ahead l.drive l.img (length l.img / 528) l.found l.s
