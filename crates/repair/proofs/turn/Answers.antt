use mathlib.Core.Path.{refl}
use native.Mathlib.Omega.{arith}
use Rattle.repair.specs.Turns.{turn_in, turn_above, turn_below, turn_count, turn_mine, turned_free, turned_mine}
use Rattle.repair.proofs.turn.Goals as goal

pub free-requires : goal.free-requires
free-requires c = (turn_in c.requires, turn_above c.requires _ c.unowned_from-above.ensures, turn_below c.requires)

pub overflow_add-result : goal.overflow_add-result
overflow_add-result c = omega (arith, turn_count c.requires)

pub returns-then-b-t : goal.returns-then-b-t
returns-then-b-t c = turned_free c.requires c.if-b-t.true c.unowned_from-above.ensures refl refl c.free.ensures

pub relink-requires : goal.relink-requires
relink-requires c = (c.requires.ready, c.requires.high, turn_mine c.requires c.if-b-t.false)

pub returns : goal.returns
returns c = turned_mine c.requires c.if-b-t.false refl refl c.relink.ensures
