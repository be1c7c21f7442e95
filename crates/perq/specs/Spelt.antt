-- Every number that the call `name` answers fits 32 bits: a rule is at most 5, a place at most 80.
use Rattle.std.specs.Prelude.{◌≡◌, refl, List, ℕ, ◌≤◌, eqb, length, Option, Some, None}
use Rattle.std.proofs.Common.{arith}
use Rattle.volume.specs.Names.{name_length, good_length, fault_at, first_broken, name_answer}
use Rattle.names.specs.Laws.{broken_few, length_most, found_inside}
use Rattle.perq.specs.Fits.{OutcomeFits, pick_fits}

pub name_fits : (text : List ℕ) → OutcomeFits (name_answer text)
unfolding name_answer
name_fits text =
    pick_fits (eqb (length text) 104) _ _
    (λ _. pick_fits (good_length (name_length text)) _ _ (λ g. go (first_broken text) refl (length_most _ g)) (omega arith, omega arith, omega arith))
    (omega arith)
  where
    go : (x : Option ℕ) → first_broken text ≡ x → name_length text ≤ 80 → OutcomeFits (fault_at text x)
    go (Some i) q m = (omega (arith, broken_few text i), omega (arith, m, found_inside text i q), omega arith)
    go None q m = (omega arith, omega arith, omega arith)
