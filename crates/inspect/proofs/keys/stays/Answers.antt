use borrow.Author.Tests.{lt-ltb, le-ltb}
use Rattle.inspect.proofs.keys.stays.Goals as goal

pub returns-then-k-le292 : goal.returns-then-k-le292
returns-then-k-le292 c =
    rw (le-ltb _ _ c.if-k-le292.true)

pub returns : goal.returns
returns c =
    rw (lt-ltb _ _ c.if-k-le292.false)
