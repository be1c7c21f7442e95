-- Names that can be typed (docs/FORMAT.md, 7.8), of the bytes of a description: which name is good, and what the call `name` answers of one.
-- The name is a string: byte 22 is its length, and the characters follow. Places count from 0.
use Rattle.volume.specs.Outcome.{Outcome}
use Rattle.std.specs.Prelude.{Bool, true, ◌||◌, List, [], ◌∷◌, ℕ, ◌+◌, leb, ltb, eqb, length, get_or, is_some, is_none, Option, Some, None, Ok, Err}
use Rattle.base.specs.Tests.{pick, both, all}
use Rattle.base.specs.declared.Refusal.TheVariants.{BadBuffer}
use Rattle.volume.specs.Answers.{lowest}
use Rattle.volume.specs.declared.Rule.{Rule}
use Rattle.volume.specs.declared.Rule.TheVariants as rules

-- ---- the rules, and their numbers

abbrev pub rule_number : Rule → ℕ
rule_number rules.Length = 1
rule_number rules.Control = 2
rule_number rules.Reserved = 3
rule_number rules.Final = 4
rule_number rules.Dots = 5

-- of the rule that is broken, or 0
abbrev pub broken_number : Option Rule → ℕ
broken_number (Some r) = rule_number r
broken_number None = 0

-- ---- characters and lengths that no name has

unfoldable pub control : ℕ → Bool
control c = ltb c 32 || eqb c 127

-- "<", "/" or ":"
unfoldable pub reserved : ℕ → Bool
reserved c = (eqb c 60 || eqb c 47) || eqb c 58

unfoldable pub good_length : ℕ → Bool
good_length n = both (leb 1 n) (leb n 80)

module _ (text : List ℕ) where
  abbrev pub name_length : ℕ
  name_length = get_or text 22 0

  -- the character at place i
  abbrev pub character : ℕ → ℕ
  character i = get_or text (23 + i) 0

  -- the name has character c at place i; it has all of these from place i on
  unfoldable pub has : ℕ → ℕ → Bool
  has i c = both (ltb i name_length) (eqb (character i) c)

  unfoldable pub spells : ℕ → List ℕ → Bool
  spells i [] = true
  spells i (c ∷ cs) = both (has i c) (spells (i + 1) cs)

  -- its last character is ">", at place i
  unfoldable pub final : ℕ → Bool
  final i = both (eqb (i + 1) name_length) (has i 62)

  -- ">.>" or ">..>" stands at place i
  unfoldable pub dots : ℕ → Bool
  dots i = spells i (62 ∷ 46 ∷ 62 ∷ []) || spells i (62 ∷ 46 ∷ 46 ∷ 62 ∷ [])

  -- the rule that is broken at place i, if one is
  unfoldable pub broken : ℕ → Option Rule
  broken i =
      pick (control (character i)) (Some rules.Control)
      (pick (reserved (character i)) (Some rules.Reserved)
      (pick (final i) (Some rules.Final)
      (pick (dots i) (Some rules.Dots) None)))

  -- a name that describe takes: 1 to 80 characters, and no rule broken at any
  unfoldable pub good_name : Bool
  good_name = both (good_length name_length) (all name_length (λ i. is_none (broken i)))

  -- ---- the call `name`: 3; the number of the rule that is broken first, with its place counted from 1; the length has place 0, and no rule 0 and 0

  abbrev pub fault_at : Option ℕ → Outcome
  fault_at (Some i) = Ok (Some (broken_number (broken i), i + 1, 0))
  fault_at None = Ok (Some (0, 0, 0))

  unfoldable pub first_broken : Option ℕ
  first_broken = lowest (λ i. is_some (broken i)) 0 name_length

  unfoldable pub name_answer : Outcome
  name_answer =
      pick (eqb (length text) 104)
      (pick (good_length name_length) (fault_at first_broken) (Ok (Some (rule_number rules.Length, 0, 0))))
      (Err BadBuffer)
