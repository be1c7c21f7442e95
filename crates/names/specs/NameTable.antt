-- Names by the rule, proved of the definitions by computation (docs/FORMAT.md, 13.6): `given` is what they give, `paper` what the customer's
-- rule says by hand, name by name; and the order of describe's refusals around 12.
use Rattle.std.specs.Prelude.{◌≡◌, refl, List, [], ◌∷◌, ◌++◌, ℕ, ◌-◌, length, replicate, take}
use Rattle.base.specs.Tests.{both, all, same_row, same_table}
use Rattle.base.specs.Laws.{same_table_is}
use Rattle.volume.specs.Answers.{lowest}
use Rattle.volume.specs.Names.{has, spells, control, reserved, final, dots, broken, good_length, first_broken, name_answer}
use Rattle.volume.specs.Table.{outcome_of}

-- a description whose name is these characters, with byte 22 as given
unfoldable pub saying : ℕ → List ℕ → List ℕ
saying n cs = replicate 22 0 ++ (n ∷ (cs ++ replicate (81 - length cs) 0))

-- what `name` answers: outcome, rule and place
abbrev pub said : ℕ → List ℕ → List ℕ
said n cs = take 3 (outcome_of (name_answer (saying n cs)))

-- the name is just these characters
abbrev pub typed : List ℕ → List ℕ
typed cs = said (length cs) cs

pub given : List (List ℕ)
unfolding saying both all lowest has spells control reserved final dots broken good_length first_broken name_answer
given =
    -- lengths
    said 0 []
    ∷ typed (65 ∷ [])
    ∷ typed (replicate 80 120)
    ∷ typed (replicate 81 120)
    ∷ said 255 (replicate 81 120)
    -- characters: control, "<", "/", ":", and those beside them
    ∷ typed (97 ∷ 31 ∷ 98 ∷ [])
    ∷ typed (97 ∷ 32 ∷ 98 ∷ [])
    ∷ typed (97 ∷ 126 ∷ 98 ∷ [])
    ∷ typed (97 ∷ 127 ∷ 98 ∷ [])
    ∷ typed (97 ∷ 128 ∷ 98 ∷ [])
    ∷ typed (60 ∷ 97 ∷ [])
    ∷ typed (97 ∷ 47 ∷ 98 ∷ [])
    ∷ typed (97 ∷ 98 ∷ 58 ∷ [])
    ∷ typed (46 ∷ 48 ∷ 57 ∷ 59 ∷ 61 ∷ 97 ∷ [])
    ∷ typed (replicate 79 120 ++ (31 ∷ []))
    -- past the length
    ∷ said 1 (97 ∷ 60 ∷ [])
    ∷ said 80 (replicate 80 120 ++ (31 ∷ []))
    -- ">" at the end, and elsewhere
    ∷ typed (62 ∷ [])
    ∷ typed (97 ∷ 62 ∷ [])
    ∷ typed (97 ∷ 62 ∷ 62 ∷ [])
    ∷ typed (62 ∷ 97 ∷ [])
    ∷ typed (97 ∷ 62 ∷ 62 ∷ 98 ∷ [])
    ∷ said 1 (97 ∷ 62 ∷ [])
    -- ">.>" and ">..>": at the start, inside, at the end; cut off by the length; with three dots
    ∷ typed (62 ∷ 46 ∷ 62 ∷ 97 ∷ [])
    ∷ typed (62 ∷ 46 ∷ 46 ∷ 62 ∷ 97 ∷ [])
    ∷ typed (97 ∷ 62 ∷ 46 ∷ 62 ∷ 98 ∷ [])
    ∷ typed (97 ∷ 62 ∷ 46 ∷ 46 ∷ 62 ∷ 98 ∷ [])
    ∷ typed (97 ∷ 62 ∷ 46 ∷ 62 ∷ [])
    ∷ said 3 (97 ∷ 62 ∷ 46 ∷ 62 ∷ [])
    ∷ said 4 (97 ∷ 62 ∷ 46 ∷ 46 ∷ 62 ∷ [])
    ∷ typed (97 ∷ 62 ∷ 46 ∷ 46 ∷ 46 ∷ 62 ∷ 98 ∷ [])
    ∷ typed (46 ∷ 62 ∷ 97 ∷ [])
    ∷ typed (46 ∷ 46 ∷ 62 ∷ 97 ∷ [])
    -- the first of two; a part of 30 letters; a description of 103 bytes
    ∷ typed (97 ∷ 47 ∷ 31 ∷ 62 ∷ [])
    ∷ typed (97 ∷ 62 ∷ replicate 30 98)
    ∷ outcome_of (name_answer (take 103 (saying 1 (97 ∷ []))))
    ∷ []

pub paper : List (List ℕ)
paper =
    (0 ∷ 1 ∷ 0 ∷ [])
    ∷ (0 ∷ 0 ∷ 0 ∷ [])
    ∷ (0 ∷ 0 ∷ 0 ∷ [])
    ∷ (0 ∷ 1 ∷ 0 ∷ [])
    ∷ (0 ∷ 1 ∷ 0 ∷ [])
    --
    ∷ (0 ∷ 2 ∷ 2 ∷ [])
    ∷ (0 ∷ 0 ∷ 0 ∷ [])
    ∷ (0 ∷ 0 ∷ 0 ∷ [])
    ∷ (0 ∷ 2 ∷ 2 ∷ [])
    ∷ (0 ∷ 0 ∷ 0 ∷ [])
    ∷ (0 ∷ 3 ∷ 1 ∷ [])
    ∷ (0 ∷ 3 ∷ 2 ∷ [])
    ∷ (0 ∷ 3 ∷ 3 ∷ [])
    ∷ (0 ∷ 0 ∷ 0 ∷ [])
    ∷ (0 ∷ 2 ∷ 80 ∷ [])
    --
    ∷ (0 ∷ 0 ∷ 0 ∷ [])
    ∷ (0 ∷ 0 ∷ 0 ∷ [])
    --
    ∷ (0 ∷ 4 ∷ 1 ∷ [])
    ∷ (0 ∷ 4 ∷ 2 ∷ [])
    ∷ (0 ∷ 4 ∷ 3 ∷ [])
    ∷ (0 ∷ 0 ∷ 0 ∷ [])
    ∷ (0 ∷ 0 ∷ 0 ∷ [])
    ∷ (0 ∷ 0 ∷ 0 ∷ [])
    --
    ∷ (0 ∷ 5 ∷ 1 ∷ [])
    ∷ (0 ∷ 5 ∷ 1 ∷ [])
    ∷ (0 ∷ 5 ∷ 2 ∷ [])
    ∷ (0 ∷ 5 ∷ 2 ∷ [])
    ∷ (0 ∷ 5 ∷ 2 ∷ [])
    ∷ (0 ∷ 0 ∷ 0 ∷ [])
    ∷ (0 ∷ 0 ∷ 0 ∷ [])
    ∷ (0 ∷ 0 ∷ 0 ∷ [])
    ∷ (0 ∷ 0 ∷ 0 ∷ [])
    ∷ (0 ∷ 0 ∷ 0 ∷ [])
    --
    ∷ (0 ∷ 3 ∷ 2 ∷ [])
    ∷ (0 ∷ 0 ∷ 0 ∷ [])
    ∷ (2 ∷ 3 ∷ [])
    ∷ []

pub each_name : given ≡ paper
unfolding same_row same_table given paper saying both all lowest has spells control reserved final dots broken good_length first_broken name_answer
each_name = same_table_is given paper refl
