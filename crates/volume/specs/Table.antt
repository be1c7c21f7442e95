-- The worked examples M1 to M12 (docs/FORMAT.md, 13), and after them some with reserved bits in every LDA, proved of the definitions by
-- computation as one table: `table` is what the definitions give, `paper` what the customer's rules print or, of the reserved bits, what
-- follows from them by hand, and `worked` says that they are equal.
use Rattle.volume.specs.Outcome.{Outcome}
use Rattle.std.specs.Prelude.{◌≡◌, refl, List, [], ◌∷◌, ◌++◌, ℕ, ◌+◌, ◌/◌, ◌%◌, eqb, take, Some, None, Ok, Err, Result}
use Rattle.base.specs.Tests.{pick, both, every, tab_from, head_of, last_of, those, all, count, occ, same_row, same_table}
use Rattle.base.specs.Tests as tests
use Rattle.base.specs.Laws.{same_table_is}
use Rattle.base.specs.Refusals as refusals
use Rattle.base.specs.declared.Refusal.{Refusal}
use Rattle.drive.specs.Code.{place_number, guess}
use Rattle.drive.specs.Rows.{on_drive}
use Rattle.drive.specs.Address.{blocks, pda, pda_block, lda, lda_block, file_id, file_id_block, file_ids, is_lda, address}
use Rattle.drive.specs.Answers.{lbn_to_pda, lbn_to_lda, pda_to_lbn, lda_to_lbn, lbn_to_file_id}
use Rattle.image.specs.View.{View, Rec, upd, after, places, put, put2, blank}
use Rattle.image.specs.Saves.{with_data, with_text, words}
use Rattle.volume.specs.Words.{partition_start_at, partition_end_at, slot_at, direct_at, last_address_at, low_address_at, free_head_at, free_tail_at}
use Rattle.volume.specs.Search.{seek, down}
use Rattle.volume.specs.Keys.{key_of, number, up, slot, child, first, low, span}
use Rattle.volume.specs.Files.{partition_of, inside, within, candidate, len, spot_in, present_in, spot, present, entry, least, size, tally, named, indexed, gapless, well_formed, is_file, is_malformed, key, owned, files, unowned, above, below, link, linked, chain, free, chained, free_sound, sound}
use Rattle.volume.specs.declared.Partition.{Partition}
use Rattle.volume.specs.Answers.{lowest, lowest_malformed, tallied, check_in, part_good, end_of}
use Rattle.volume.specs.Plans.{new_first, pib_less, fresh_fib, gone, top_gone, fib_gone, top_gone_stores, last_gone_stores, pib_more, destroyed, trimmed, shaped, stores, free_at, taken_stores, create_plan, describe_plan, destroy_plan, content, relinked, freed, repaired, repaired_pib, repair_plan}
use Rattle.volume.specs.Writes.{put2_if, over, counted, inner, needs, is_new, fresh, present', spot', above', below', least', size', link', early, empty, base, entered, ended, body, grown, plan_of, write_plan, replace_plan}
use Rattle.volume.specs.Places.{minus, named_by}
use Rattle.volume.specs.Calls.{Planned, create_in, append_in, write_in, describe_in, destroy_in, repair_in}

-- a conversion's answer: the two words, or the number of its refusal
abbrev pub two_words : Result ℕ Refusal → List ℕ
two_words (Ok x) = x % 65536 ∷ x / 65536 ∷ []
two_words (Err y) = refusals.number y ∷ []

abbrev pub one_number : Result ℕ Refusal → List ℕ
one_number (Ok x) = x ∷ []
one_number (Err y) = refusals.number y ∷ []

-- what a call came to: 0 and its values, or 2 and the number of its refusal
abbrev pub outcome_of : Outcome → List ℕ
outcome_of (Ok (Some x)) = 0 ∷ x.0 ∷ x.1 ∷ x.2 ∷ []
outcome_of (Ok None) = 1 ∷ []
outcome_of (Err y) = 2 ∷ refusals.number y ∷ []

-- the answer of a changing call, then the blocks that it stores in order, then the place of the deciding one
abbrev pub row_of : Planned → List ℕ
row_of p = outcome_of p.outcome ++ (places p.list ++ p.deciding)

-- drive 0, partition 1..7
abbrev pub seven : Partition
seven = partition_of 0 1 7

-- all zero with Start and End set
unfoldable pub zeroed : View
zeroed b = pick (eqb b 1) (put2 partition_start_at (lda 0 1) (put2 partition_end_at (lda 0 7) blank)) blank

-- what is written
unfoldable pub block : Rec
block w = w + 7

-- repaired: what check answers, L + 1 of file 2, and the free chain
pub mended : View → List ℕ
mended v = let v' = after (repair_in seven v).list v in outcome_of (check_in seven v') ++ (len v' 2 ∷ free seven v')

-- the places of LDAs in the PIB and in the FIB of a file of up to two blocks
abbrev pub pib_ldas : List ℕ
pib_ldas = free_head_at ∷ free_tail_at ∷ partition_start_at ∷ partition_end_at ∷ []

abbrev pub fib_ldas : List ℕ
fib_ldas = direct_at 0 ∷ direct_at 1 ∷ last_address_at ∷ low_address_at ∷ []

-- a record with the reserved bits of the LDAs at these places set to x, x + 1 and so on, where they are not nil
abbrev pub marked : ℕ → List ℕ → Rec → Rec
marked x [] r = r
marked x (i ∷ is) r = marked (x + 1) is (put i (pick (eqb (r (i + 1)) 0) 0 (r i + x)) r)

-- the reserved bits at these places
abbrev pub bits_at : List ℕ → Rec → List ℕ
bits_at [] r = []
bits_at (i ∷ is) r = r i % 256 ∷ bits_at is r

-- those of the partition seven and its file 2: the PIB's set to 1 to 4, the FIB's to 252 and up
pub bits_set : View → View
bits_set v b = pick (eqb b 1) (marked 1 pib_ldas (v 1)) (pick (eqb b 2) (marked 252 fib_ldas (v 2)) (v b))

pub bits_of : View → List ℕ
bits_of v = bits_at pib_ldas (v 1) ++ bits_at fib_ldas (v 2)

pub table : List (List ℕ)
unfolding zeroed mended bits_set bits_of part_good end_of both every all count tab_from those occ last_of head_of tests.above tests.below on_drive place_number guess blocks pda pda_block lda lda_block file_id file_id_block file_ids lbn_to_pda lbn_to_lda lda_to_lbn pda_to_lbn lbn_to_file_id after put put2 blank with_data with_text words seek down key_of number up slot child first low span is_lda address inside within candidate len spot_in present_in spot present entry least size tally named indexed gapless well_formed is_file is_malformed key owned files unowned above below link linked chain free chained free_sound sound lowest lowest_malformed tallied check_in new_first pib_less fresh_fib gone top_gone fib_gone top_gone_stores last_gone_stores pib_more destroyed trimmed shaped stores free_at taken_stores create_plan describe_plan destroy_plan content relinked freed repaired repaired_pib repair_plan put2_if over counted inner needs is_new fresh present' spot' above' below' least' size' link' early empty base entered ended body grown plan_of write_plan replace_plan create_in append_in write_in describe_in destroy_in repair_in
table =
    let v₀ = after (repair_in seven zeroed).list zeroed in
    let c = create_in seven v₀ 5 in
    let v₁ = after c.list v₀ in
    let w₀ = write_in seven v₁ 2 0 block in
    let v₂ = after w₀.list v₁ in
    let w₁ = write_in seven v₂ 2 1 block in
    let v₃ = after w₁.list v₂ in
    let z = destroy_in seven v₃ 2 in
    let v₄ = after z.list v₃ in
    let x₂ = bits_set v₂ in
    let x₃ = after (write_in seven x₂ 2 1 block).list x₂ in
    let x₄ = after (take 2 (destroy_in seven x₂ 2).list) x₂ in
    (two_words (lbn_to_lda 1 210) ++ (one_number (lda_to_lbn 1 (lda 1 210)) ++ two_words (lbn_to_pda 1 210)))
    ∷ two_words (lbn_to_pda 0 210)
    ∷ two_words (lbn_to_pda 0 24209)
    ∷ two_words (lbn_to_pda 1 48449)
    ∷ (two_words (lbn_to_pda 2 69551) ++ two_words (lbn_to_lda 2 69551))
    ∷ two_words (lbn_to_pda 3 431)
    ∷ one_number (lbn_to_file_id 3 431)
    ∷ one_number (lbn_to_file_id 2 57344)
    ∷ named_by 191
    ∷ named_by 192
    ∷ named_by 4159
    ∷ free seven v₀
    ∷ row_of c
    ∷ row_of w₀
    ∷ row_of w₁
    ∷ free seven v₃
    ∷ mended v₂
    ∷ mended (after (take 1 w₁.list) v₂)
    ∷ mended (after (take 2 w₁.list) v₂)
    ∷ mended (after (take 3 w₁.list) v₂)
    ∷ mended (after (take 4 w₁.list) v₂)
    ∷ mended (after (take 5 w₁.list) v₂)
    ∷ row_of z
    ∷ free seven v₄
    ∷ outcome_of (check_in seven v₀)
    ∷ outcome_of (check_in seven v₁)
    ∷ outcome_of (check_in seven v₂)
    ∷ outcome_of (check_in seven v₃)
    ∷ outcome_of (check_in seven v₄)
    ∷ one_number (lda_to_lbn 1 (lda 1 210 + 255))
    ∷ one_number (lda_to_lbn 1 255)
    ∷ bits_of x₂
    ∷ (pick (part_good 0 8 x₂ 1) 1 0 ∷ outcome_of (check_in seven x₂))
    ∷ outcome_of (check_in seven (upd x₂ 2 (put (direct_at 1) 255 (x₂ 2))))
    ∷ bits_of x₃
    ∷ outcome_of (check_in seven x₃)
    ∷ bits_of (after (repair_in seven x₂).list x₂)
    ∷ bits_of (after (repair_in seven x₃).list x₃)
    ∷ bits_of (after (repair_in seven x₄).list x₄)
    ∷ []

pub paper : List (List ℕ)
paper =
    -- M1 to M8: addresses
    (0o151000 ∷ 0o140000 ∷ 210 ∷ 0o400 ∷ 0 ∷ [])
    ∷ (0o1000 ∷ 0 ∷ [])
    ∷ (0o144575 ∷ 0 ∷ [])
    ∷ (0o144775 ∷ 0 ∷ [])
    ∷ (0o2027 ∷ 0o1103 ∷ 0o127400 ∷ 0o140417 ∷ [])
    ∷ (0o27 ∷ 0o114 ∷ [])
    ∷ (57775 ∷ [])
    ∷ (10 ∷ [])
    -- M9 to M11: pointer blocks -4, -5, -35 and their entries
    ∷ (minus 4 ∷ slot_at 127 ∷ [])
    ∷ (minus 5 ∷ slot_at 0 ∷ [])
    ∷ (minus 35 ∷ slot_at 127 ∷ [])
    -- M12: fresh; create gives 2; append r = 0, r = 1; each with its stores and the deciding one's place
    ∷ (2 ∷ 3 ∷ 4 ∷ 5 ∷ 6 ∷ 7 ∷ [])
    ∷ (0 ∷ 2 ∷ 0 ∷ 0 ∷ 2 ∷ 3 ∷ 1 ∷ 0 ∷ [])
    ∷ (0 ∷ 0 ∷ 0 ∷ 0 ∷ 3 ∷ 2 ∷ 4 ∷ 1 ∷ 1 ∷ [])
    ∷ (0 ∷ 0 ∷ 0 ∷ 0 ∷ 4 ∷ 3 ∷ 2 ∷ 5 ∷ 1 ∷ 2 ∷ [])
    ∷ (5 ∷ 6 ∷ 7 ∷ [])
    -- cut after 0 to 5 stores and repaired: sound with one file, L + 1, the free chain
    ∷ (0 ∷ 1 ∷ 2 ∷ 4 ∷ 1 ∷ 4 ∷ 5 ∷ 6 ∷ 7 ∷ [])
    ∷ (0 ∷ 1 ∷ 2 ∷ 4 ∷ 1 ∷ 4 ∷ 5 ∷ 6 ∷ 7 ∷ [])
    ∷ (0 ∷ 1 ∷ 2 ∷ 4 ∷ 1 ∷ 4 ∷ 5 ∷ 6 ∷ 7 ∷ [])
    ∷ (0 ∷ 1 ∷ 3 ∷ 3 ∷ 2 ∷ 5 ∷ 6 ∷ 7 ∷ [])
    ∷ (0 ∷ 1 ∷ 3 ∷ 3 ∷ 2 ∷ 5 ∷ 6 ∷ 7 ∷ [])
    ∷ (0 ∷ 1 ∷ 3 ∷ 3 ∷ 2 ∷ 5 ∷ 6 ∷ 7 ∷ [])
    -- uncut, then destroyed
    ∷ (0 ∷ 0 ∷ 0 ∷ 0 ∷ 2 ∷ 4 ∷ 7 ∷ 1 ∷ 0 ∷ [])
    ∷ (5 ∷ 6 ∷ 7 ∷ 2 ∷ 3 ∷ 4 ∷ [])
    -- check after each call: files, owned blocks, free blocks
    ∷ (0 ∷ 0 ∷ 0 ∷ 6 ∷ [])
    ∷ (0 ∷ 1 ∷ 1 ∷ 5 ∷ [])
    ∷ (0 ∷ 1 ∷ 2 ∷ 4 ∷ [])
    ∷ (0 ∷ 1 ∷ 3 ∷ 3 ∷ [])
    ∷ (0 ∷ 0 ∷ 0 ∷ 6 ∷ [])
    -- reserved bits: an address that has some decodes, one of them alone does not
    ∷ (210 ∷ [])
    ∷ (10 ∷ [])
    -- set in every LDA before the second append; the partition is good and sound; in a nil entry they make its file malformed
    ∷ (1 ∷ 2 ∷ 3 ∷ 4 ∷ 252 ∷ 0 ∷ 254 ∷ 255 ∷ [])
    ∷ (1 ∷ 0 ∷ 1 ∷ 2 ∷ 4 ∷ [])
    ∷ (2 ∷ 4 ∷ [])
    -- the append keeps them but where it names another block, in FreeHead and last address
    ∷ (0 ∷ 2 ∷ 3 ∷ 4 ∷ 252 ∷ 0 ∷ 0 ∷ 255 ∷ [])
    ∷ (0 ∷ 1 ∷ 3 ∷ 3 ∷ [])
    -- repair keeps those of both
    ∷ (1 ∷ 2 ∷ 3 ∷ 4 ∷ 252 ∷ 0 ∷ 254 ∷ 255 ∷ [])
    ∷ (0 ∷ 2 ∷ 3 ∷ 4 ∷ 252 ∷ 0 ∷ 0 ∷ 255 ∷ [])
    -- of a cut destroy the chain begins at another block and ends at the same one; the dead FIB's words stay
    ∷ (0 ∷ 2 ∷ 3 ∷ 4 ∷ 252 ∷ 0 ∷ 254 ∷ 255 ∷ [])
    ∷ []

pub worked : table ≡ paper
unfolding same_row same_table table paper block zeroed mended bits_set bits_of part_good end_of both every all count tab_from those occ last_of head_of tests.above tests.below on_drive place_number guess blocks pda pda_block lda lda_block file_id file_id_block file_ids lbn_to_pda lbn_to_lda lda_to_lbn pda_to_lbn lbn_to_file_id after put put2 blank with_data with_text words seek down key_of number up slot child first low span is_lda address inside within candidate len spot_in present_in spot present entry least size tally named indexed gapless well_formed is_file is_malformed key owned files unowned above below link linked chain free chained free_sound sound lowest lowest_malformed tallied check_in new_first pib_less fresh_fib gone top_gone fib_gone top_gone_stores last_gone_stores pib_more destroyed trimmed shaped stores free_at taken_stores create_plan describe_plan destroy_plan content relinked freed repaired repaired_pib repair_plan put2_if over counted inner needs is_new fresh present' spot' above' below' least' size' link' early empty base entered ended body grown plan_of write_plan replace_plan create_in append_in write_in describe_in destroy_in repair_in
worked = same_table_is table paper refl
