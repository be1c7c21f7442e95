-- In what order a write behind the last block stores at the edges of the index (docs/FORMAT.md, 13.5), proved of the definitions by
-- computation, but for the FIB, the new first free block and the PIB, which follow.
use Rattle.std.specs.Prelude.{◌≡◌, refl, List, [], ◌∷◌, map, ℕ, ◌+◌, ◌-◌, ◌/◌, ◌%◌, ltb, eqb}
use Rattle.base.specs.Tests.{pick, both, same_row, same_table}
use Rattle.base.specs.Laws.{same_table_is}
use Rattle.drive.specs.Code.{place_number, guess}
use Rattle.drive.specs.Rows.{on_drive}
use Rattle.drive.specs.Address.{lda, lda_block}
use Rattle.image.specs.View.{View}
use Rattle.volume.specs.Words.{last_block_at}
use Rattle.volume.specs.Search.{seek, down}
use Rattle.volume.specs.Keys.{home, key_of, number, up, slot, child, first, low, span}
use Rattle.volume.specs.Places.{minus}
use Rattle.volume.specs.Files.{partition_of, len, spot_in, present_in, spot, present, least}
use Rattle.volume.specs.declared.Partition.{Partition}
use Rattle.volume.specs.Writes.{over, inner, needs, is_new, present', above', below', early}

-- a file with n blocks in a partition of drive 2, the block of key k at k + 3, as far as its index goes
abbrev pub wide : Partition
wide = partition_of 2 1 32767

abbrev pub fib : ℕ
fib = home + 3

unfoldable pub laid : ℕ → View
laid n b w =
    let k = child (b - 3) w in
    let x = pick (ltb (first k) n) (lda 2 (k + 3)) 0 in
    pick (both (eqb b fib) (eqb w last_block_at)) (n - 1) (pick (eqb (w % 2) 0) (x % 65536) (x / 65536))

-- how many blocks a write of block r behind r blocks takes, and the numbers of the blocks that it stores before the FIB
abbrev pub order_at : ℕ → List ℕ
order_at r = needs wide (laid r) fib r ∷ map number (early wide (laid r) fib r)

pub edges : List (List ℕ)
unfolding laid both on_drive place_number guess lda lda_block seek down key_of number up slot child first low span len spot_in present_in spot present least over inner needs is_new present' above' below' early
edges =
    order_at 64
    ∷ order_at 192
    ∷ order_at 4160
    ∷ order_at 4161
    ∷ order_at 4288
    ∷ order_at 20544
    ∷ order_at 20672
    ∷ []

pub drawn : List (List ℕ)
drawn =
    -- with the FIB, the new first free block and the PIB nine stores at 4,160, and ten at 20,544
    (2 ∷ 64 ∷ minus 4 ∷ 63 ∷ [])
    ∷ (2 ∷ 192 ∷ minus 5 ∷ 191 ∷ minus 4 ∷ [])
    ∷ (3 ∷ 4160 ∷ minus 36 ∷ minus 2 ∷ minus 4 ∷ 4159 ∷ minus 35 ∷ [])
    ∷ (1 ∷ 4161 ∷ minus 36 ∷ 4160 ∷ [])
    ∷ (2 ∷ 4288 ∷ minus 37 ∷ minus 2 ∷ 4287 ∷ minus 36 ∷ [])
    ∷ (3 ∷ 20544 ∷ minus 164 ∷ minus 3 ∷ minus 4 ∷ minus 2 ∷ 20543 ∷ minus 163 ∷ [])
    ∷ (2 ∷ 20672 ∷ minus 165 ∷ minus 3 ∷ 20671 ∷ minus 164 ∷ [])
    ∷ []

pub at_edges : edges ≡ drawn
unfolding same_row same_table edges drawn laid both on_drive place_number guess lda lda_block seek down key_of number up slot child first low span len spot_in present_in spot present least over inner needs is_new present' above' below' early
at_edges = same_table_is edges drawn refl
