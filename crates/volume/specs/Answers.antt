-- What the calls that change nothing answer, of the image's bytes l: their refusals in their order (docs/FORMAT.md, 7.4), the values, and
-- the buffers.
use Rattle.volume.specs.Outcome.{Outcome}
use Rattle.std.specs.Prelude.{◌≡◌, Bool, true, false, not, List, [], ◌∷◌, ◌++◌, ℕ, zero, suc, ◌+◌, ◌-◌, ◌*◌, ◌/◌, ◌%◌, leb, ltb, eqb, length, take, drop, replicate, Option, Some, None, Result, Ok, Err}
use Rattle.base.specs.Tests.{pick, every, count}
use Rattle.base.specs.declared.Refusal.{Refusal}
use Rattle.base.specs.declared.Refusal.TheVariants.{BadImage, BadPartition, BadBuffer, Malformed, Unsound, NoCandidate, BadBlock}
use Rattle.drive.specs.Address.{blocks, lda_block, is_lda}
use Rattle.image.specs.View.{View, pair}
use Rattle.image.specs.Image.{view}
use Rattle.volume.specs.Words.{partition_start_at, partition_end_at, data_offset}
use Rattle.volume.specs.Files.{partition_of, block_at, candidate, well_formed, is_file, is_malformed, owned, sound, len, name}
use Rattle.volume.specs.declared.Partition.{Partition}
use Rattle.volume.specs.Keys.{reach}
use Rattle.volume.specs.declared.PairAnswer.{PairAnswer}
use Rattle.volume.specs.declared.Source.{Source}
use Rattle.volume.specs.declared.Source.TheVariants.{Repaired, Original}

-- ---- the partition

-- 1: a known drive, and a length of one record or more that the drive holds
unfoldable pub image_good : ℕ → ℕ → Bool
image_good d n = every (leb d 3 ∷ ltb 0 n ∷ eqb (n % 528) 0 ∷ leb (n / 528) (blocks d) ∷ [])

-- the end of the partition at s, as its PIB has it
unfoldable pub end_of : ℕ → View → ℕ → ℕ
end_of d v s = lda_block d (pair v s partition_end_at)

-- 2: s names a good partition of an image of n blocks: s ≥ 1, s < n, Start is s, s < e < n, at most 32,767 blocks
unfoldable pub part_good : ℕ → ℕ → View → ℕ → Bool
part_good d n v s =
    let e = end_of d v s in
    every (leb 1 s
    ∷ ltb s n
    ∷ is_lda d (pair v s partition_start_at) s
    ∷ is_lda d (pair v s partition_end_at) e
    ∷ ltb s e
    ∷ ltb e n
    ∷ leb (e - s + 1) 32767
    ∷ [])

unfoldable pub partition : ℕ → List ℕ → ℕ → Result ℕ Refusal
partition d l s =
    pick (image_good d (length l))
    (pick (part_good d (length l / 528) (view l) s) (Ok (end_of d (view l) s)) (Err BadPartition))
    (Err BadImage)

-- what a call comes to in a good partition, by its end, or what it comes to by the partition's refusal
abbrev pub in_partition : {A : Type 0} → (Refusal → A) → Result ℕ Refusal → (ℕ → A) → A
in_partition otherwise (Ok e) k = k e
in_partition otherwise (Err y) k = otherwise y

-- ---- searches

-- the lowest of the n numbers from a on that has p
unfoldable pub lowest : (ℕ → Bool) → ℕ → ℕ → Option ℕ
lowest p a zero = None
lowest p a (suc n) = elim (p a) [ true ↦ Some a | false ↦ lowest p (a + 1) n ]

-- 4: the lowest malformed candidate
unfoldable pub lowest_malformed : Partition → View → Option ℕ
lowest_malformed π v = lowest (is_malformed π v) (π.s + 1) (π.e - π.s)

-- no candidate is malformed
abbrev pub Unmarred : Partition → View → Type 0
Unmarred π v = lowest_malformed π v ≡ None

-- the lowest file above a block
unfoldable pub file_above : Partition → View → ℕ → Option ℕ
file_above π v b = let a = pick (ltb b π.s) π.s b in lowest (is_file π v) (a + 1) (π.e - a)

-- ---- check: 1, 2, 4, 5; files, owned blocks, free blocks

unfoldable pub tallied : Partition → View → Outcome
tallied π v =
    let m = π.e - π.s in
    Ok (Some (count m (λ i. is_file π v (block_at π i)), count m (λ i. owned π v (block_at π i)), count m (λ i. not (owned π v (block_at π i)))))

abbrev pub check_clean : Partition → View → Option ℕ → Outcome
check_clean π v (Some f) = Err (Malformed f)
check_clean π v None = pick (sound π v) (tallied π v) (Err Unsound)

unfoldable pub check_in : Partition → View → Outcome
check_in π v = check_clean π v (lowest_malformed π v)

unfoldable pub checked : ℕ → List ℕ → ℕ → Outcome
checked d l s = in_partition Err (partition d l s) (λ e. check_in (partition_of d s e) (view l))

-- ---- next file: 1, 2; the file

abbrev pub found_file : Option ℕ → Outcome
found_file (Some f) = Ok (Some (f, 0, 0))
found_file None = Ok None

unfoldable pub next_file : ℕ → List ℕ → ℕ → ℕ → Outcome
next_file d l s b = in_partition Err (partition d l s) (λ e. found_file (file_above (partition_of d s e) (view l) b))

-- ---- show: 1, 2, 6, 4, 7; where the block's 512 bytes start

-- 6, 4 and then k, for a file
abbrev pub of_file : Partition → View → ℕ → Outcome → Outcome
of_file π v f k = pick (candidate π v f) (pick (well_formed π v f) k (Err (Malformed f))) (Err NoCandidate)

unfoldable pub show_in : Partition → View → ℕ → ℕ → Outcome
show_in π v f r =
    of_file π v f (pick (ltb r reach) (pick (ltb r (len v f)) (Ok (Some (data_offset (name π v f r), 512, 0))) (Ok None)) (Err BadBlock))

unfoldable pub shown : ℕ → List ℕ → ℕ → ℕ → ℕ → Outcome
shown d l s f r = in_partition Err (partition d l s) (λ e. show_in (partition_of d s e) (view l) f r)

-- the part of the image: 512 bytes, or none
abbrev pub part_of : List ℕ → Outcome → List ℕ
part_of l (Ok (Some x)) = take 512 (drop x.0 l)
part_of l (Ok None) = []
part_of l (Err y) = []

-- ---- show of a pair: the repaired image's answer unless that is refused, and then the original's

abbrev pub either_of : Outcome → Outcome → PairAnswer
either_of (Ok x) y = record { image = Repaired; outcome = Ok x }
either_of (Err n) y = record { image = Original; outcome = y }

unfoldable pub shown_pair : ℕ → List ℕ → List ℕ → ℕ → ℕ → ℕ → PairAnswer
shown_pair d original repaired s f r = either_of (shown d repaired s f r) (shown d original s f r)

abbrev pub image_of : List ℕ → List ℕ → Source → List ℕ
image_of original repaired Repaired = repaired
image_of original repaired Original = original

abbrev pub part_of_pair : List ℕ → List ℕ → PairAnswer → List ℕ
part_of_pair original repaired a = part_of (image_of original repaired a.image) a.outcome

-- ---- read: 1, 2, 3, 6, 4, 7; the buffer gets the block, or zeros where it is absent

-- where the block stands, for a buffer of n bytes
unfoldable pub read_from : ℕ → List ℕ → ℕ → ℕ → ℕ → ℕ → Outcome
read_from d l s f r n = in_partition Err (partition d l s) (λ e. pick (eqb n 512) (show_in (partition_of d s e) (view l) f r) (Err BadBuffer))

-- an answer without its values
abbrev pub plain : Outcome → Outcome
plain (Ok (Some x)) = Ok (Some (0, 0, 0))
plain (Ok None) = Ok None
plain (Err y) = Err y

abbrev pub read_into : List ℕ → List ℕ → Outcome → List ℕ
read_into l buffer (Ok (Some x)) = take 512 (drop x.0 l)
read_into l buffer (Ok None) = replicate 512 0
read_into l buffer (Err y) = buffer

-- ---- the description: 1, 2, 3, 6, 4; the buffer gets words 0-51 of the FIB's data

unfoldable pub described_as : ℕ → List ℕ → ℕ → ℕ → ℕ → Outcome
described_as d l s f n =
    in_partition Err (partition d l s) (λ e. pick (eqb n 104) (of_file (partition_of d s e) (view l) f (Ok (Some (0, 0, 0)))) (Err BadBuffer))

abbrev pub described_into : List ℕ → ℕ → List ℕ → Outcome → List ℕ
described_into l f buffer (Ok (Some x)) = take 104 (drop (data_offset f) l)
described_into l f buffer (Ok None) = buffer
described_into l f buffer (Err y) = buffer

-- ---- extract, a call of our own: 1, 2, 6, 4, and 3 for a buffer that is not 512 bytes for each block; the whole file, block by block

-- the bytes of the k blocks of f from r on
unfoldable pub block_bytes : Partition → List ℕ → ℕ → ℕ → ℕ → List ℕ
block_bytes π l f r zero = []
block_bytes π l f r (suc k) = take 512 (drop (data_offset (name π (view l) f r)) l) ++ block_bytes π l f (suc r) k

unfoldable pub extract_in : Partition → View → ℕ → ℕ → Outcome
extract_in π v f n = of_file π v f (pick (eqb n (512 * len v f)) (Ok (Some (len v f, 0, 0))) (Err BadBuffer))

unfoldable pub extracted : ℕ → List ℕ → ℕ → ℕ → ℕ → Outcome
extracted d l s f n = in_partition Err (partition d l s) (λ e. extract_in (partition_of d s e) (view l) f n)

abbrev pub extract_into : Partition → List ℕ → ℕ → List ℕ → Outcome → List ℕ
extract_into π l f buffer (Ok (Some x)) = block_bytes π l f 0 x.0
extract_into π l f buffer (Ok None) = buffer
extract_into π l f buffer (Err y) = buffer
