use native.Mathlib.Omega.{arith}
use Rattle.base.specs.declared.Refusal.TheVariants.{Full}
use Rattle.change.proofs.Laws.{answered_not, answered_done, block_pib, block_free_at, free_first, free_next, create_few, create_is}
use Rattle.change.proofs.create_open.Goals as goal

pub returns-then-full : goal.returns-then-full
returns-then-full c = answered_not Full (create_few _ _ _ _ c.room-full.ensures (omega (arith, c.if-full.true))) c.refused.ensures

pub create_store-n-requires : goal.create_store-n-requires
create_store-n-requires c =
    let o = c.requires.0 in
    let second = free_next _ _ 0 _ _ (free_first _ _ _ c.head-h.ensures.0) c.next-g.ensures in
    (block_pib o, c.head-h.ensures.1, block_free_at o 1 _ second (omega (arith, c.room-full.ensures, c.if-full.false)), c.requires.1)

pub returns : goal.returns
returns c =
    let second = free_next _ _ 0 _ _ (free_first _ _ _ c.head-h.ensures.0) c.next-g.ensures in
    answered_done _ (create_is _ _ _ _ _ _ c.room-full.ensures c.if-full.false c.head-h.ensures.0 second) c.create_store-n.ensures c.done.ensures
