use native.Mathlib.Omega.{arith}
use borrow.Author.Tests.{lt-ltb, le-ltb}
use Rattle.volume.specs.Keys.{slot}
use Rattle.volume.proofs.KeyLaws.{slot_far, slot_data}
use Rattle.inspect.proofs.keys.slot.Goals as goal

pub returns-then-k-le256 : goal.returns-then-k-le256
returns-then-k-le256 c = (omega (arith, slot_far _ c.if-k-le256.true), omega arith)

pub returns-then-k-le-POINTER : goal.returns-then-k-le-POINTER
unfolding slot
returns-then-k-le-POINTER c =
    let k = c.args.k in (rw (le-ltb 355 k (omega arith), le-ltb 291 k (omega arith), le-ltb 288 k c.if-k-le-POINTER.true, lt-ltb 256 k c.if-k-le256.false), omega arith)

pub returns-then-k-le-HOME : goal.returns-then-k-le-HOME
unfolding slot
returns-then-k-le-HOME c =
    let k = c.args.k in (rw (c.saturating_sub.ensures, le-ltb 355 k (omega arith), le-ltb 291 k c.if-k-le-HOME.true, lt-ltb 288 k c.if-k-le-POINTER.false), omega (arith, c.saturating_sub.ensures))

pub returns-then-k-le355 : goal.returns-then-k-le355
unfolding slot
returns-then-k-le355 c =
    let k = c.args.k in (rw (le-ltb 355 k c.if-k-le355.true, lt-ltb 291 k c.if-k-le-HOME.false), omega arith)

pub returns : goal.returns
returns c = (omega (arith, slot_data _ c.if-k-le355.false), omega arith)
