use Prim.Native.Nat.{◌-◌}
use native.Mathlib.Omega.{arith}
use borrow.Author.Tests.{lt-ltb, le-ltb}
use Rattle.drive.specs.Ranges.{boot_converts, place_converts}
use Rattle.drive.proofs.pda_to_lbn.Goals as goal

pub returns-then-p-o : goal.returns-then-p-o
returns-then-p-o c =
    let d = c.in_ok-d.ensures in
    rw (le-ltb 3 _ d.1, d.0)
    at (boot_converts _ _ c.place-p.ensures.0 c.boot-o.ensures.0 (omega (arith, c.if-p-o.true)))

pub returns-then-p-o-2 : goal.returns-then-p-o-2
returns-then-p-o-2 c =
    let d = c.in_ok-d.ensures in
    let p = c.place-p in
    let o = c.boot-o in
    let n = c.blocks-2 in
    rw (le-ltb 3 _ d.1, lt-ltb (p.result - o.result) n.result (omega (arith, c.if-p-o-2.true)), d.0)
    at (place_converts _ _ p.ensures.0 o.ensures.0 (omega (arith, c.if-p-o.false)) n.ensures.0)

pub returns-else-p-o-2 : goal.returns-else-p-o-2
returns-else-p-o-2 c =
    let d = c.in_ok-d.ensures in
    let p = c.place-p in
    let o = c.boot-o in
    let n = c.blocks-2 in
    rw (le-ltb 3 _ d.1, le-ltb (p.result - o.result) n.result (omega (arith, c.if-p-o-2.false)), d.0)
    at (place_converts _ _ p.ensures.0 o.ensures.0 (omega (arith, c.if-p-o.false)) n.ensures.0)
