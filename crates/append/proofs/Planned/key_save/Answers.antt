use Rattle.records.proofs.Laws.{stands}
use Rattle.append.proofs.Laws.{store_is}
use Rattle.append.proofs.Planned.key_save.Goals as goal

pub returns : goal.returns
returns c = λ dat q. stands (rw (c.saved.ensures.0, c.with_pair-2.ensures, c.with_pair.ensures) (store_is c.args.self.now.appends _ c.requires _ _ _ _ _ _ dat c.block_of-b.ensures.0 c.prev_key-below.ensures c.next_key-above.ensures c.link_to-back.ensures.0 c.link_to-on.ensures.0 q)) c.saved.ensures.1 c.block_of-b.ensures.1
