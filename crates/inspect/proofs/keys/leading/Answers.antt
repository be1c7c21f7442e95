use native.Mathlib.Omega.{arith}
use borrow.Author.Tests.{lt-ltb, le-ltb}
use Rattle.inspect.proofs.keys.leading.Goals as goal

pub returns-then-k-le-POINTER : goal.returns-then-k-le-POINTER
returns-then-k-le-POINTER c =
    (rw (le-ltb _ _ c.if-k-le-POINTER.true, ← c.first.ensures.0, c.saturating_sub-m.ensures), omega (arith, c.saturating_sub-m.ensures))

pub returns-else-k-le-POINTER : goal.returns-else-k-le-POINTER
returns-else-k-le-POINTER c =
    (rw (lt-ltb _ _ c.if-k-le-POINTER.false, ← c.first.ensures.0, c.saturating_sub-m.ensures), omega (arith, c.saturating_sub-m.ensures))
