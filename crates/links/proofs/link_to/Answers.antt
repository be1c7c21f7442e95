use Rattle.links.proofs.Laws.{link_nil, link_is}
use Rattle.links.proofs.link_to.Goals as goal

pub returns-then-k-eq0 : goal.returns-then-k-eq0
returns-then-k-eq0 c = link_nil _ _ _ _ c.if-k-eq0.true

pub returns : goal.returns
returns c = link_is _ _ _ _ c.if-k-eq0.false c.spot.ensures.0 c.pda.ensures.0
