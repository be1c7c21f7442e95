use mathlib.Core.Path.{sym}
use Rattle.volume.specs.Plans.{top_gone_stores}
use Rattle.records.proofs.Laws.{stands, stands_none}
use Rattle.erase.proofs.top_save.Goals as goal

pub returns-then-alone : goal.returns-then-alone
unfolding top_gone_stores
returns-then-alone c = stands_none (sym (rw (top_gone_stores, c.if-alone.true)))

pub returns : goal.returns
unfolding top_gone_stores
returns c = rw (top_gone_stores, c.if-alone.false) (stands (rw (c.saved.ensures.0, c.top_gone.ensures)) c.saved.ensures.1 c.requires.0)
