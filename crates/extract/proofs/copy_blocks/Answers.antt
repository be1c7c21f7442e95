use native.Mathlib.Omega.{arith}
use borrow.Author.Rules.{rules}
use Rattle.inspect.specs.Parts.{Opened}
use Rattle.extract.proofs.Laws.{copied_none, copied_next}
use Rattle.extract.proofs.copy_blocks.Goals as goal

pub loop-r-init : goal.loop-r-init
loop-r-init c = copied_none _ _ _ _ _ c.requires.1

pub loop-r-preserved : goal.loop-r-preserved
loop-r-preserved c =
    let o : Opened c.args.file.now.volume.p c.args.file.now.volume.img.now c.args.file.now.f = search rules in
    let i = o.lies.within in
    copied_next _ _ _ _ _ _ _ _ c.loop-r.invariant c.loop-r-test.true c.name-b.ensures.0 (omega arith) c.put_at.ensures
