-- Which block names which at the edges of the index, and at which word (docs/FORMAT.md, 13.5), proved of the keys by computation.
use Rattle.std.specs.Prelude.{◌≡◌, refl, List, [], ◌∷◌, ℕ, ◌+◌, ◌-◌}
use Rattle.base.specs.Tests.{both, same_row, same_table}
use Rattle.base.specs.Laws.{same_table_is}
use Rattle.volume.specs.Words.{slot_at, indirect_at, double_at}
use Rattle.volume.specs.Keys.{key_of, number, up, slot}

-- the word of the relative number -n
abbrev pub minus : ℕ → ℕ
minus n = 65536 - n

-- the number of the block that names a relative number, and the word of the entry
abbrev pub named_by : ℕ → List ℕ
named_by w = number (up (key_of w)) ∷ slot (key_of w) ∷ []

pub places : List (List ℕ)
unfolding key_of number up slot
places =
    named_by 4159
    ∷ named_by 4160
    ∷ named_by 4287
    ∷ named_by 4288
    ∷ named_by 20543
    ∷ named_by 20544
    ∷ named_by 32766
    ∷ named_by (minus 4)
    ∷ named_by (minus 35)
    ∷ named_by (minus 36)
    ∷ named_by (minus 163)
    ∷ named_by (minus 164)
    ∷ named_by (minus 291)
    ∷ named_by (minus 2)
    ∷ named_by (minus 3)
    ∷ []

pub printed : List (List ℕ)
printed =
    -- data blocks: -35 is the last that the FIB names, -36 to -163 are -2's, and -164 on are -3's
    (minus 35 ∷ slot_at 127 ∷ [])
    ∷ (minus 36 ∷ slot_at 0 ∷ [])
    ∷ (minus 36 ∷ slot_at 127 ∷ [])
    ∷ (minus 37 ∷ slot_at 0 ∷ [])
    ∷ (minus 163 ∷ slot_at 127 ∷ [])
    ∷ (minus 164 ∷ slot_at 0 ∷ [])
    ∷ (minus 259 ∷ slot_at 62 ∷ [])
    -- pointer blocks
    ∷ (minus 1 ∷ indirect_at 0 ∷ [])
    ∷ (minus 1 ∷ indirect_at 31 ∷ [])
    ∷ (minus 2 ∷ slot_at 0 ∷ [])
    ∷ (minus 2 ∷ slot_at 127 ∷ [])
    ∷ (minus 3 ∷ slot_at 0 ∷ [])
    ∷ (minus 3 ∷ slot_at 127 ∷ [])
    ∷ (minus 1 ∷ double_at ∷ [])
    ∷ (minus 1 ∷ (double_at + 2) ∷ [])
    ∷ []

pub as_printed : places ≡ printed
unfolding same_row same_table both places printed key_of number up slot
as_printed = same_table_is places printed refl
