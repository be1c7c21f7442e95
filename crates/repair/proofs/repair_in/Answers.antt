use mathlib.Core.Path.{◌∙◌}
use native.Mathlib.Omega.{arith}
use Rattle.blocks.specs.Standing.{last_end, many_end}
use Rattle.repair.specs.Mending.{mend_pib, mend_end}
use Rattle.repair.specs.Answer.{from_start, first_few, none_free, some_free, answered_not, answered_done}
use Rattle.repair.proofs.repair_in.Goals as goal

pub returns-then-first-lt1 : goal.returns-then-first-lt1
returns-then-first-lt1 c = answered_not _ (none_free _ _ _ (c.unowned_from-first.ensures ∙ from_start _ _) c.if-first-lt1.true) c.refused.ensures

pub mend-t-requires : goal.mend-t-requires
mend-t-requires c = (c.requires, c.unowned_from-first.ensures ∙ from_start _ _)

pub pib-x-requires : goal.pib-x-requires
pib-x-requires c =
    let m = c.mend-t.ensures in
    let q = c.unowned_from-first.ensures ∙ from_start _ _ in
    let g = c.requires.lies in (
      omega (arith, g.within, g.order, m.same),
      omega (arith, first_few _ _ _ g.order q, g.few),
      omega (arith, last_end m.stand g.order, g.few),
      omega (arith, many_end m.stand, g.few),
    )

pub returns : goal.returns
returns c =
    let m = c.mend-t.ensures in
    let some = c.if-first-lt1.false in
    let q = c.unowned_from-first.ensures ∙ from_start _ _ in
    let pib = mend_pib m _ q c.pib-x.ensures in
    answered_done _ (some_free _ _ _ q some) c.saturating_sub.ensures (mend_end m pib (rw c.saved.ensures.0 at c.step-left.ensures))
