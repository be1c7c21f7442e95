use native.Mathlib.Omega.{arith}
use Rattle.base.specs.declared.Refusal.TheVariants.{Full}
use Rattle.change.proofs.Laws.{answered_not, answered_done, file_opened}
use Rattle.write.proofs.Laws.{append_few, append_is, block_second, leaves, appends}
use Rattle.write.proofs.append_open.Goals as goal

pub returns-then-room-m : goal.returns-then-room-m
returns-then-room-m c =
    let q = c.requires in
    let m = c.needs-m.ensures.2 _ _ _ (record { formed = (file_opened q.0 _ q.1).formed; next = q.2; far = q.3 }) in
    answered_not Full (append_few _ q c.needs-m.ensures.0 m c.room.ensures _ (omega (arith, c.if-room-m.true))) c.refused.ensures

pub next-d-requires : goal.next-d-requires
next-d-requires c =
    let q = c.requires in
    let m = c.needs-m.ensures.2 _ _ _ (record { formed = (file_opened q.0 _ q.1).formed; next = q.2; far = q.3 }) in
    block_second _ q c.needs-m.ensures.0 m c.room.ensures c.if-room-m.false c.head-a.ensures.0 c.next-q.ensures

pub left-g-requires : goal.left-g-requires
left-g-requires c =
    let q = c.requires in
    let m = c.needs-m.ensures.2 _ _ _ (record { formed = (file_opened q.0 _ q.1).formed; next = q.2; far = q.3 }) in
    leaves _ q c.needs-m.ensures.0 m c.room.ensures c.if-room-m.false c.head-a.ensures.0 c.next-q.ensures c.next-d.ensures c.needs-m.ensures.1

pub append_store-made-requires : goal.append_store-made-requires
append_store-made-requires c =
    let q = c.requires in
    let m = c.needs-m.ensures.2 _ _ _ (record { formed = (file_opened q.0 _ q.1).formed; next = q.2; far = q.3 }) in
    appends _ q c.needs-m.ensures.0 m c.room.ensures c.if-room-m.false c.head-a.ensures.0 c.next-q.ensures c.next-d.ensures c.left-g.ensures

pub returns : goal.returns
returns c =
    let q = c.requires in
    let m = c.needs-m.ensures.2 _ _ _ (record { formed = (file_opened q.0 _ q.1).formed; next = q.2; far = q.3 }) in
    answered_done _ (append_is _ q c.needs-m.ensures.0 m c.room.ensures _ c.if-room-m.false) c.append_store-made.ensures c.done.ensures
