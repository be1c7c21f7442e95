use Rattle.std.proofs.Common.{rules, tests}
use native.Mathlib.Omega.{arith}
use Rattle.base.specs.declared.Refusal.TheVariants.{NoCandidate, BadBlock}
use Rattle.inspect.proofs.Laws.{opened_len}
use Rattle.change.proofs.Laws.{answered_not, answered_as, file_opened}
use Rattle.write.proofs.Laws.{write_nowhere, write_above, write_far, write_append}
use Rattle.write.proofs.write_open.Goals as goal

pub returns-then-not-candidate : goal.returns-then-not-candidate
returns-then-not-candidate c = answered_not NoCandidate (write_nowhere _ _ _ _ _ (search (rules, tests))) c.refused.ensures

pub returns-then-r-ge-REACH : goal.returns-then-r-ge-REACH
returns-then-r-ge-REACH c = answered_not BadBlock (write_above _ _ _ _ _ (search (rules, tests)) c.if-r-ge-REACH.true) c.refused-then-r-ge-REACH.ensures

pub len-n-requires : goal.len-n-requires
len-n-requires c = opened_len (file_opened c.requires _ (search (rules, tests)))

pub returns-then-n-r : goal.returns-then-n-r
returns-then-n-r c = answered_not BadBlock (write_far _ _ _ _ _ (search (rules, tests)) _ c.len-n.ensures.0 c.if-r-ge-REACH.false (omega (arith, c.if-n-r.true))) c.refused-then-n-r.ensures

pub returns : goal.returns
returns c = answered_as (write_append _ _ _ _ _ (search (rules, tests)) _ c.len-n.ensures.0 c.if-r-ge-REACH.false c.if-r-n.false c.if-n-r.false) c.append_open.ensures
