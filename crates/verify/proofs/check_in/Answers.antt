use Rattle.std.specs.Prelude.{Err}
use mathlib.Core.Path.{sym, ap, ◌∙◌}
use Rattle.verify.proofs.Surveys.{linked_sums, faulty_test, check_faulty, good_unmarred, free_rest, check_sound, check_unsound}
use Rattle.verify.proofs.check_in.Goals as goal

pub returns-in_default : goal.returns-in_default
returns-in_default c = ap Err c.fault.ensures ∙ check_faulty _ _ (faulty_test _ _ c.surveyed.ensures c.in_default.is)

pub free_good-requires : goal.free_good-requires
free_good-requires c = (linked_sums _ _ _ _ c.surveyed.ensures c.in-Some.is).blocks

pub invariant_of-free_good : goal.invariant_of-free_good
invariant_of-free_good c = record { unmarred = good_unmarred _ _ (linked_sums _ _ _ _ c.surveyed.ensures c.in-Some.is).good }

pub overflow_sub-result-then-free_good : goal.overflow_sub-result-then-free_good
overflow_sub-result-then-free_good c = (free_rest _ _ _ (linked_sums _ _ _ _ c.surveyed.ensures c.in-Some.is).blocks).0

pub returns-then-free_good : goal.returns-then-free_good
returns-then-free_good c = check_sound _ _ _ _ (linked_sums _ _ _ _ c.surveyed.ensures c.in-Some.is) (sym c.free_good.ensures ∙ c.if-free_good.true)

pub returns-else-free_good : goal.returns-else-free_good
returns-else-free_good c = check_unsound _ _ _ _ (linked_sums _ _ _ _ c.surveyed.ensures c.in-Some.is) (sym c.free_good.ensures ∙ c.if-free_good.false)
