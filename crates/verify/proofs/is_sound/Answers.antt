use Rattle.verify.proofs.Surveys.{linked_sums, faulty_test, good_unmarred, sound_faulty, sound_linked}
use Rattle.verify.proofs.is_sound.Goals as goal

pub free_good-requires : goal.free_good-requires
free_good-requires c = (linked_sums _ _ _ _ c.surveyed.ensures c.in-Some.is).blocks

pub invariant_of-free_good : goal.invariant_of-free_good
invariant_of-free_good c = record { unmarred = good_unmarred _ _ (linked_sums _ _ _ _ c.surveyed.ensures c.in-Some.is).good }

pub returns-in-None : goal.returns-in-None
returns-in-None c = sound_faulty _ _ (faulty_test _ _ c.surveyed.ensures c.in-None.is)

pub returns-in-Some : goal.returns-in-Some
returns-in-Some c = sound_linked _ _ (linked_sums _ _ _ _ c.surveyed.ensures c.in-Some.is).good c.free_good.ensures
