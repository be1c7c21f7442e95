use native.Mathlib.Omega.{arith}
use Rattle.inspect.proofs.Ways.{index_none, index_is, index_not, doubles_is}
use Rattle.inspect.proofs.Volume.index_good.Goals as goal

pub returns-then-n-lt1 : goal.returns-then-n-lt1
returns-then-n-lt1 c =
    index_none _ _ _ _ (omega (arith, c.if-n-lt1.true))

pub entries_good-requires : goal.entries_good-requires
entries_good-requires c =
    let h = c.requires in (h.0, h.1, doubles_is _ _ _ _ c.nearest.ensures.0 c.doubles_good.ensures c.if-doubles_good.true)

pub returns-then-doubles_good : goal.returns-then-doubles_good
returns-then-doubles_good c =
    index_is _ _ _ _ (doubles_is _ _ _ _ c.nearest.ensures.0 c.doubles_good.ensures c.if-doubles_good.true) c.entries_good.ensures

pub returns-else-doubles_good : goal.returns-else-doubles_good
returns-else-doubles_good c =
    index_not _ _ _ _ c.nearest.ensures.0 c.doubles_good.ensures c.if-doubles_good.false
