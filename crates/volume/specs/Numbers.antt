-- Each of the numbers 1 to 10 (docs/FORMAT.md, 7.3) is given by some input: no refusal is vacuous. By computation.
use Rattle.std.specs.Prelude.{◌≡◌, refl, List, [], ◌∷◌, ◌++◌, ℕ, eqb, take, replicate, Result, Ok, Err}
use Rattle.base.specs.declared.Refusal.{Refusal}
use Rattle.base.specs.Tests.{pick, both, every, tab_from, head_of, last_of, those, all, count, occ, same_row, same_table}
use Rattle.base.specs.Tests as tests
use Rattle.base.specs.Laws.{same_table_is}
use Rattle.base.specs.Refusals as refusals
use Rattle.drive.specs.Code.{place_number, guess}
use Rattle.drive.specs.Rows.{on_drive}
use Rattle.drive.specs.Address.{blocks, pda, pda_block, lda, lda_block, file_id, file_id_block, file_ids, is_lda, address}
use Rattle.drive.specs.Answers.{lbn_to_pda, lbn_to_lda, pda_to_lbn, lda_to_lbn, lbn_to_file_id}
use Rattle.image.specs.View.{View, after, pair, put, put2, blank}
use Rattle.image.specs.Saves.{with_data, with_text, words}
use Rattle.volume.specs.declared.Unfit.TheVariants.{Name}
use Rattle.volume.specs.Search.{seek, down}
use Rattle.volume.specs.Keys.{key_of, number, up, slot, child, first, low, span}
use Rattle.volume.specs.Files.{partition_of, inside, within, candidate, len, spot_in, present_in, spot, present, entry, least, size, tally, named, indexed, gapless, well_formed, is_file, is_malformed, key, owned, files, unowned, above, below, link, linked, chain, free, chained, free_sound, sound}
use Rattle.volume.specs.declared.Partition.{Partition}
use Rattle.volume.specs.Plans.{new_first, pib_less, fresh_fib, gone, top_gone, fib_gone, top_gone_stores, last_gone_stores, pib_more, destroyed, trimmed, shaped, stores, free_at, taken_stores, create_plan, describe_plan, destroy_plan, content, relinked, freed, repaired, repaired_pib, repair_plan}
use Rattle.volume.specs.Writes.{put2_if, over, counted, inner, needs, is_new, fresh, present', spot', above', below', least', size', link', early, empty, base, entered, ended, body, grown, plan_of, write_plan, replace_plan}
use Rattle.volume.specs.Calls.{refuse, gated, create_in, append_in, write_in, describe_in, destroy_in, repair_in}
use Rattle.base.specs.declared.Refusal.TheVariants.{Full}
use Rattle.image.specs.Image.{view}
use Rattle.volume.specs.Words.{serial_at, relative_at, filler_at, next_at, previous_at, data_at, last_block_at, kind_at}
use Rattle.volume.specs.Answers.{lowest, lowest_malformed, tallied, check_in, image_good, end_of, part_good, partition, show_in, shown, read_from}
use Rattle.volume.specs.Table.{outcome_of, one_number, seven, zeroed, block}

-- a partition's refusal
abbrev pub part_of : Result ℕ Refusal → List ℕ
part_of (Ok e) = []
part_of (Err y) = 2 ∷ refusals.number y ∷ []

-- the bytes of an image of three records on a floppy whose partition is 1..2
unfoldable pub small : List ℕ
small = replicate 528 0 ++ (replicate 252 0 ++ (0 ∷ 1 ∷ 0 ∷ 224 ∷ 0 ∷ 2 ∷ 0 ∷ 224 ∷ (replicate 268 0 ++ replicate 528 0)))

-- drive 0, partition 1..2, and its one block a fresh file
abbrev pub two : Partition
two = partition_of 0 1 2

pub taken : View
taken b = pick (eqb b 2) (fresh_fib 0 (λ _. blank) 2 0) blank

-- partition 1..7 of which block 5 is a candidate with L = 0 and an empty index
pub torn : View
torn b = pick (eqb b 5) (put last_block_at 0 (fresh_fib 0 (λ _. blank) 5 0)) blank

pub given : List (List ℕ)
unfolding view zeroed small taken torn both every all count tab_from those occ last_of head_of tests.above tests.below on_drive place_number guess blocks pda pda_block lda lda_block file_id file_id_block file_ids lbn_to_pda lbn_to_lda lda_to_lbn pda_to_lbn lbn_to_file_id after put put2 blank with_data with_text words seek down key_of number up slot child first low span is_lda address inside within candidate len spot_in present_in spot present entry least size tally named indexed gapless well_formed is_file is_malformed key owned files unowned above below link linked chain free chained free_sound sound lowest lowest_malformed tallied check_in new_first pib_less fresh_fib gone top_gone fib_gone top_gone_stores last_gone_stores pib_more destroyed trimmed shaped stores free_at taken_stores create_plan describe_plan destroy_plan content relinked freed repaired repaired_pib repair_plan put2_if over counted inner needs is_new fresh present' spot' above' below' least' size' link' early empty base entered ended body grown plan_of write_plan replace_plan create_in append_in write_in describe_in destroy_in repair_in image_good end_of part_good partition show_in shown read_from
given =
    let v₀ = after (repair_in seven zeroed).list zeroed in
    let v₁ = after (create_in seven v₀ 5).list v₀ in
    let w = after (repair_in (partition_of 0 1 2) (λ _. blank)).list (λ _. blank) in
    part_of (partition 4 small 1)
    ∷ part_of (partition 3 small 2)
    ∷ outcome_of (read_from 3 small 1 2 0 511)
    ∷ outcome_of (check_in seven torn)
    ∷ outcome_of (check_in seven zeroed)
    ∷ outcome_of (write_in seven v₁ 3 0 block).outcome
    ∷ outcome_of (write_in seven v₁ 2 1 block).outcome
    ∷ outcome_of (create_in two w 5).outcome
    ∷ outcome_of (repair_in two taken).outcome
    ∷ one_number (lbn_to_file_id 2 57344)
    ∷ outcome_of (gated seven torn (Err Name) (refuse Full)).outcome
    ∷ []

pub numbers : List (List ℕ)
numbers =
    (2 ∷ 1 ∷ [])
    ∷ (2 ∷ 2 ∷ [])
    ∷ (2 ∷ 3 ∷ [])
    ∷ (2 ∷ 4 ∷ [])
    ∷ (2 ∷ 5 ∷ [])
    ∷ (2 ∷ 6 ∷ [])
    ∷ (2 ∷ 7 ∷ [])
    ∷ (2 ∷ 8 ∷ [])
    ∷ (2 ∷ 9 ∷ [])
    ∷ (10 ∷ [])
    ∷ (2 ∷ 12 ∷ [])
    ∷ []

pub each_given : given ≡ numbers
unfolding same_row same_table view given numbers block zeroed small taken torn both every all count tab_from those occ last_of head_of tests.above tests.below on_drive place_number guess blocks pda pda_block lda lda_block file_id file_id_block file_ids lbn_to_pda lbn_to_lda lda_to_lbn pda_to_lbn lbn_to_file_id after put put2 blank with_data with_text words seek down key_of number up slot child first low span is_lda address inside within candidate len spot_in present_in spot present entry least size tally named indexed gapless well_formed is_file is_malformed key owned files unowned above below link linked chain free chained free_sound sound lowest lowest_malformed tallied check_in new_first pib_less fresh_fib gone top_gone fib_gone top_gone_stores last_gone_stores pib_more destroyed trimmed shaped stores free_at taken_stores create_plan describe_plan destroy_plan content relinked freed repaired repaired_pib repair_plan put2_if over counted inner needs is_new fresh present' spot' above' below' least' size' link' early empty base entered ended body grown plan_of write_plan replace_plan create_in append_in write_in describe_in destroy_in repair_in image_good end_of part_good partition show_in shown read_from
each_given = same_table_is given numbers refl

-- ---- details of reading, allocation, destroy and repair, word by word

-- serial, relative number, filler, and the blocks that next and previous name
pub header : View → ℕ → List ℕ
header v b =
    let block : ℕ → ℕ = λ x. pick (eqb x 0) 0 (pda_block 0 x) in
    block (pair v b serial_at) ∷ v b relative_at ∷ v b filler_at ∷ block (pair v b next_at) ∷ block (pair v b previous_at) ∷ []

pub seen : List (List ℕ)
unfolding view zeroed small taken torn header both every all count tab_from those occ last_of head_of tests.above tests.below on_drive place_number guess blocks pda pda_block lda lda_block file_id file_id_block file_ids lbn_to_pda lbn_to_lda lda_to_lbn pda_to_lbn lbn_to_file_id after put put2 blank with_data with_text words seek down key_of number up slot child first low span is_lda address inside within candidate len spot_in present_in spot present entry least size tally named indexed gapless well_formed is_file is_malformed key owned files unowned above below link linked chain free chained free_sound sound lowest lowest_malformed tallied check_in new_first pib_less fresh_fib gone top_gone fib_gone top_gone_stores last_gone_stores pib_more destroyed trimmed shaped stores free_at taken_stores create_plan describe_plan destroy_plan content relinked freed repaired repaired_pib repair_plan put2_if over counted inner needs is_new fresh present' spot' above' below' least' size' link' early empty base entered ended body grown plan_of write_plan replace_plan create_in append_in write_in describe_in destroy_in repair_in image_good end_of part_good partition show_in shown read_from
seen =
    let v₀ = after (repair_in seven zeroed).list zeroed in
    let v₁ = after (create_in seven v₀ 5).list v₀ in
    let v₂ = after (write_in seven v₁ 2 0 block).list v₁ in
    let w = (write_in seven v₂ 2 1 block).list in
    let v₃ = after w v₂ in
    let v₄ = after (destroy_in seven v₃ 2).list v₃ in
    let u = after (take 1 w) v₂ in
    let u' = after (repair_in seven u).list u in
    outcome_of (show_in seven v₃ 2 1)
    ∷ outcome_of (show_in seven v₃ 2 32766)
    ∷ outcome_of (show_in seven v₃ 2 32767)
    ∷ header v₃ 2
    ∷ header v₃ 3
    ∷ header v₃ 4
    ∷ header v₃ 5
    ∷ (v₃ 2 kind_at ∷ v₃ 4 (data_at 0) ∷ [])
    ∷ header v₄ 2
    ∷ header v₄ 3
    ∷ header v₄ 4
    ∷ header v₄ 7
    ∷ (header u' 4 ++ (u' 4 (data_at 0) ∷ []))
    ∷ []

-- the file is 2, 3, 4 with links; block 5 is the first free one with its own number as filler. Destroyed, 2 and 4 lose their serials and take
-- FreeHead's number as filler, 3 stays, and 2 follows the old tail 7. A cut append repaired: block 4 is free, its number and data kept
pub meant : List (List ℕ)
meant =
    (0 ∷ 2128 ∷ 512 ∷ 0 ∷ [])
    ∷ (1 ∷ [])
    ∷ (2 ∷ 7 ∷ [])
    ∷ (2 ∷ 65535 ∷ 2 ∷ 3 ∷ 0 ∷ [])
    ∷ (2 ∷ 0 ∷ 3 ∷ 4 ∷ 2 ∷ [])
    ∷ (2 ∷ 1 ∷ 4 ∷ 0 ∷ 3 ∷ [])
    ∷ (0 ∷ 0 ∷ 5 ∷ 6 ∷ 0 ∷ [])
    ∷ (5 ∷ 7 ∷ [])
    ∷ (0 ∷ 65535 ∷ 5 ∷ 3 ∷ 7 ∷ [])
    ∷ (2 ∷ 0 ∷ 3 ∷ 4 ∷ 2 ∷ [])
    ∷ (0 ∷ 1 ∷ 5 ∷ 0 ∷ 3 ∷ [])
    ∷ (0 ∷ 0 ∷ 2 ∷ 2 ∷ 6 ∷ [])
    ∷ (0 ∷ 1 ∷ 4 ∷ 5 ∷ 0 ∷ 7 ∷ [])
    ∷ []

pub as_meant : seen ≡ meant
unfolding same_row same_table view seen meant block zeroed small taken torn header both every all count tab_from those occ last_of head_of tests.above tests.below on_drive place_number guess blocks pda pda_block lda lda_block file_id file_id_block file_ids lbn_to_pda lbn_to_lda lda_to_lbn pda_to_lbn lbn_to_file_id after put put2 blank with_data with_text words seek down key_of number up slot child first low span is_lda address inside within candidate len spot_in present_in spot present entry least size tally named indexed gapless well_formed is_file is_malformed key owned files unowned above below link linked chain free chained free_sound sound lowest lowest_malformed tallied check_in new_first pib_less fresh_fib gone top_gone fib_gone top_gone_stores last_gone_stores pib_more destroyed trimmed shaped stores free_at taken_stores create_plan describe_plan destroy_plan content relinked freed repaired repaired_pib repair_plan put2_if over counted inner needs is_new fresh present' spot' above' below' least' size' link' early empty base entered ended body grown plan_of write_plan replace_plan create_in append_in write_in describe_in destroy_in repair_in image_good end_of part_good partition show_in shown read_from
as_meant = same_table_is seen meant refl
