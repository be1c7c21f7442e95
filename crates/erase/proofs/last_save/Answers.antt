use mathlib.Core.Path.{sym}
use Rattle.volume.specs.Plans.{last_gone_stores}
use Rattle.records.proofs.Laws.{stands, stands_none}
use Rattle.erase.proofs.last_save.Goals as goal

pub returns-then-empty : goal.returns-then-empty
unfolding last_gone_stores
returns-then-empty c = stands_none (sym (rw (last_gone_stores, c.if-empty.true)))

pub returns : goal.returns
unfolding last_gone_stores
returns c = rw (last_gone_stores, c.if-empty.false) (stands (rw (c.saved.ensures.0, c.gone.ensures)) c.saved.ensures.1 c.requires)
