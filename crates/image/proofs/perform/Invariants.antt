use Rattle.std.proofs.Common.{take}
use Rattle.image.specs.Saves.{all_stores, Applied}
use Rattle.image.proofs.perform.Given as goal

abbrev pub invariant-loop-s : goal.invariant-loop-s
invariant-loop-s l = Applied l.limit (all_stores (take l.s-index l.saves)) l.fn.img l.img l.left
