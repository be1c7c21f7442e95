use Rattle.inspect.proofs.Signs.{last_below, last_from}
use Rattle.inspect.proofs.numbers.last_good.Goals as goal

pub returns-then-l-ltminus1 : goal.returns-then-l-ltminus1
returns-then-l-ltminus1 c = last_below _ c.ranges.l c.if-l-ltminus1.true

pub returns : goal.returns
returns c = last_from _ c.ranges.l c.if-l-ltminus1.false
