-- The named places are those found by adding the field sizes, in words: of the header and the file block (docs/FORMAT.md,
-- 4.1 and 5.2) and of the partition information block (docs/LAYOUT.md). By computation.
use Rattle.std.specs.Prelude.{◌≡◌, refl, List, [], ◌∷◌, ℕ, ◌+◌, ◌*◌}
use Rattle.volume.specs.Words.{serial_at, relative_at, filler_at, next_at, previous_at, data_at, slot_at, direct_at, indirect_at, double_at, kind_at, in_use_at, last_block_at, last_address_at, low_number_at, low_address_at, free_head_at, free_tail_at, number_free_at, partition_start_at, partition_end_at}

-- where fields of these sizes stand, the first at place i, and where the last one ends
abbrev pub places_from : ℕ → List ℕ → List ℕ
places_from i [] = i ∷ []
places_from i (n ∷ ns) = i ∷ places_from (i + n) ns

-- header: serial, relative number, filler, next, previous; then the data
pub header_places : places_from 0 (2 ∷ 1 ∷ 1 ∷ 2 ∷ 2 ∷ []) ≡ serial_at ∷ relative_at ∷ filler_at ∷ next_at ∷ previous_at ∷ data_at 0 ∷ []
header_places = refl

-- file block: description, 64 direct, 32 indirect, two double entries, kind, blocks in use, last block, last address, last negative
-- number, its address; a record ends at word 264
pub fib_places : places_from (data_at 0) (52 ∷ 64 * 2 ∷ 32 * 2 ∷ 2 ∷ 2 ∷ 1 ∷ 1 ∷ 1 ∷ 2 ∷ 1 ∷ 2 ∷ [])
    ≡ data_at 0 ∷ direct_at 0 ∷ indirect_at 0 ∷ double_at ∷ (double_at + 2) ∷ kind_at ∷ in_use_at ∷ last_block_at ∷ last_address_at ∷ low_number_at ∷ low_address_at ∷ 264 ∷ []
fib_places = refl

-- pointer block: 128 entries
pub pointer_places : places_from (slot_at 0) (127 * 2 ∷ 2 ∷ []) ≡ data_at 0 ∷ slot_at 127 ∷ 264 ∷ []
pointer_places = refl

-- partition information block: FreeHead, FreeTail, NumberFree, RootDirectoryID, BadSegmentID, BootTable, InterpreterTable, PartitionName,
-- PartitionStart, PartitionEnd, SubPartitions, PartitionRoot, PartitionType and DeviceType; words 253 to 255 are unused
pub pib_places : places_from (data_at 0) (2 ∷ 2 ∷ 2 ∷ 2 ∷ 2 ∷ 52 ∷ 52 ∷ 4 ∷ 2 ∷ 2 ∷ 128 ∷ 2 ∷ 1 ∷ [])
    ≡ free_head_at ∷ free_tail_at ∷ number_free_at ∷ data_at 6 ∷ data_at 8 ∷ data_at 10 ∷ data_at 62 ∷ data_at 114 ∷ partition_start_at ∷ partition_end_at
    ∷ data_at 122 ∷ data_at 250 ∷ data_at 252 ∷ data_at 253 ∷ []
pib_places = refl
