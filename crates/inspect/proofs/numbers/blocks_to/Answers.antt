use mathlib.Core.Path.{refl}
use native.Mathlib.Omega.{arith}
use Rattle.inspect.proofs.Signs.{next_few, next_fits, next_is}
use Rattle.inspect.proofs.numbers.blocks_to.Goals as goal

pub overflow_add-result : goal.overflow_add-result
overflow_add-result c = next_fits _ c.ranges.l c.requires

pub overflow_cast-result : goal.overflow_cast-result
overflow_cast-result c = rw (next_is _ c.ranges.l c.requires) (tt, record { fits = omega (arith, next_few _ c.ranges.l c.requires) })

pub returns : goal.returns
returns c = rw (next_is _ c.ranges.l c.requires) (refl, next_few _ c.ranges.l c.requires)
