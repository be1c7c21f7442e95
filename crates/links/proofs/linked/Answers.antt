use native.Mathlib.Omega.{arith}
use Rattle.links.proofs.Walk.{link_alone}
use Rattle.links.proofs.linked.Goals as goal

pub returns-then-len-lt1 : goal.returns-then-len-lt1
returns-then-len-lt1 c = link_alone c.args.file.now.opened c.len.ensures.0 (omega (arith, c.if-len-lt1.true)) c.link_good.ensures
