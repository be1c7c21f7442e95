use Rattle.std.proofs.Common.{◌≡◌, refl, sym, ◌∙◌, ℕ, zero, suc, ◌+◌, ◌-◌, Bool, true, false, is_some, arith, rules, tests}
use Rattle.std.specs.Prelude.{Some, cond}
use Rattle.std.specs.List.{find, range_with_len}
use Rattle.std.proofs.lemmas.Iterator.{YieldsList-from_range}
use Rattle.std.proofs.lemmas.Iterator.Search.{find_from_yields_List}
use Rattle.std.proofs.lemmas.Iterator.Adapters.{option_map_id}
use Rattle.volume.specs.Answers.{lowest}
use Rattle.volume.specs.Names.{name_length, broken, first_broken}
use Rattle.names.proofs.rules.Name.first_broken.Goals as goal

-- the first number of a range that has p is the lowest
find_lowest : (p : ℕ → Bool) (a n : ℕ) → find p (range_with_len a n) ≡ lowest p a n
unfolding lowest
find_lowest p a zero = refl
find_lowest p a (suc n) = go (p a) (find_lowest p (a + 1) n)
  where
    go : (t : Bool) → find p (range_with_len (a + 1) n) ≡ lowest p (a + 1) n → cond t (Some a) (find p (range_with_len (a + 1) n)) ≡ elim t [ true ↦ Some a | false ↦ lowest p (a + 1) n ]
    go true h = refl
    go false h = h

pub returns : goal.returns
unfolding first_broken
returns c =
    let name = c.args.self.now in
    let p = λ (i : ℕ). is_some (broken name.text.now i) in
    let whole : name.count - 0 ≡ name_length name.text.now = omega (arith, name.counted) in
    sym (option_map_id _) ∙ find_from_yields_List p _ _ _ c.find.ensures.ran (YieldsList-from_range _ _ _ refl whole) (λ x b q k. search (rules, tests)) ∙ find_lowest p 0 _
