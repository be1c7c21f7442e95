-- The order of describe's refusals, 1, 2, 3, 12, 4, 5, 6, proved of the definitions by computation: each next one is given where the one before is mended.
use Rattle.std.specs.Prelude.{◌≡◌, refl, List, [], ◌∷◌, ◌++◌, ℕ, replicate, take}
use Rattle.base.specs.Tests.{both, every, tab_from, head_of, last_of, those, all, count, occ, same_row, same_table}
use Rattle.base.specs.Tests as tests
use Rattle.base.specs.Laws.{same_table_is}
use Rattle.drive.specs.Code.{place_number, guess}
use Rattle.drive.specs.Rows.{on_drive}
use Rattle.drive.specs.Address.{blocks, pda, pda_block, lda, lda_block, is_lda, address}
use Rattle.image.specs.View.{after, put, put2, blank}
use Rattle.image.specs.Image.{view, rec_of}
use Rattle.image.specs.Stores.{bytes_from, bytes_of, lay, over, stored}
use Rattle.image.specs.Saves.{words}
use Rattle.volume.specs.Search.{seek, down}
use Rattle.volume.specs.Keys.{key_of, number, up, slot, child, first, low, span}
use Rattle.volume.specs.Files.{inside, within, candidate, len, spot_in, present_in, spot, present, entry, least, size, tally, named, indexed, gapless, well_formed, is_file, is_malformed, key, owned, files, unowned, above, below, link, linked, chain, free, chained, free_sound, sound}
use Rattle.volume.specs.Answers.{lowest, lowest_malformed, image_good, end_of, part_good, partition}
use Rattle.volume.specs.Plans.{trimmed, shaped, stores, describe_plan, content, relinked, freed, repaired, repaired_pib, repair_plan}
use Rattle.volume.specs.Names.{has, spells, control, reserved, final, dots, broken, good_length, good_name}
use Rattle.volume.specs.Calls.{describe_in, repair_in, lent_text, through, planned, describe, repair}
use Rattle.volume.specs.Table.{outcome_of}
use Rattle.volume.specs.Numbers.{small}
use Rattle.names.specs.NameTable.{saying}

-- `small`, whose partition is not sound, with block 2 a candidate that has an empty index
pub torn : List ℕ
unfolding small
torn = take 1056 small ++ (11 ∷ 0 ∷ 5 ∷ 0 ∷ 255 ∷ 255 ∷ replicate 522 0)

pub turns : List (List ℕ)
unfolding view rec_of bytes_from bytes_of lay over stored small torn both every all count tab_from those occ last_of head_of tests.above tests.below on_drive place_number guess blocks pda pda_block lda lda_block after put put2 blank words seek down key_of number up slot child first low span is_lda address inside within candidate len spot_in present_in spot present entry least size tally named indexed gapless well_formed is_file is_malformed key owned files unowned above below link linked chain free chained free_sound sound lowest lowest_malformed trimmed shaped stores content relinked freed repaired repaired_pib repair_plan repair_in describe_plan describe_in image_good end_of part_good partition saying has spells control reserved final dots broken good_length good_name lent_text through planned
turns =
    let good = saying 1 (97 ∷ []) in
    let bad = saying 0 [] in
    let mended = stored (planned 3 small 1 repair).list small in
    outcome_of (planned 4 torn 1 (describe 2 (take 103 bad))).outcome
    ∷ outcome_of (planned 3 torn 2 (describe 2 (take 103 bad))).outcome
    ∷ outcome_of (planned 3 torn 1 (describe 2 (take 103 bad))).outcome
    ∷ outcome_of (planned 3 torn 1 (describe 2 bad)).outcome
    ∷ outcome_of (planned 3 torn 1 (describe 2 good)).outcome
    ∷ outcome_of (planned 3 small 1 (describe 2 bad)).outcome
    ∷ outcome_of (planned 3 small 1 (describe 2 good)).outcome
    ∷ outcome_of (planned 3 mended 1 (describe 2 bad)).outcome
    ∷ outcome_of (planned 3 mended 1 (describe 2 good)).outcome
    ∷ []

pub turned : List (List ℕ)
turned =
    (2 ∷ 1 ∷ [])
    ∷ (2 ∷ 2 ∷ [])
    ∷ (2 ∷ 3 ∷ [])
    ∷ (2 ∷ 12 ∷ [])
    ∷ (2 ∷ 4 ∷ [])
    ∷ (2 ∷ 12 ∷ [])
    ∷ (2 ∷ 5 ∷ [])
    ∷ (2 ∷ 12 ∷ [])
    ∷ (2 ∷ 6 ∷ [])
    ∷ []

pub in_turn : turns ≡ turned
unfolding same_row same_table turns turned view rec_of bytes_from bytes_of lay over stored small torn both every all count tab_from those occ last_of head_of tests.above tests.below on_drive place_number guess blocks pda pda_block lda lda_block after put put2 blank words seek down key_of number up slot child first low span is_lda address inside within candidate len spot_in present_in spot present entry least size tally named indexed gapless well_formed is_file is_malformed key owned files unowned above below link linked chain free chained free_sound sound lowest lowest_malformed trimmed shaped stores content relinked freed repaired repaired_pib repair_plan repair_in describe_plan describe_in image_good end_of part_good partition saying has spells control reserved final dots broken good_length good_name lent_text through planned
in_turn = same_table_is turns turned refl
