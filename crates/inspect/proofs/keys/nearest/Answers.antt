use native.Mathlib.Omega.{arith}
use borrow.Author.Tests.{lt-ltb, le-ltb}
use Rattle.inspect.proofs.keys.nearest.Goals as goal

pub returns-then-n-le4160 : goal.returns-then-n-le4160
returns-then-n-le4160 c =
    let n = c.args.n in (rw (le-ltb 20544 n (omega arith), le-ltb 4160 n c.if-n-le4160.true), omega arith, omega arith)

pub returns-then-n-le20544 : goal.returns-then-n-le20544
returns-then-n-le20544 c =
    (rw (le-ltb _ _ c.if-n-le20544.true, lt-ltb _ _ c.if-n-le4160.false), omega arith, omega arith)

pub returns-else-n-le20544 : goal.returns-else-n-le20544
returns-else-n-le20544 c =
    (rw (lt-ltb _ _ c.if-n-le20544.false), omega arith, omega arith)
