-- Candidates, files, owned blocks, link order, the free chain, soundness, on a view of a partition (docs/FORMAT.md, 5 and 6). A relative
-- number is a key here (Keys), and a file's index says which keys are present, and where.
use Rattle.std.specs.Prelude.{Bool, true, false, not, ◌||◌, List, [], ◌∷◌, ℕ, zero, suc, ◌+◌, ◌-◌, ◌%◌, leb, ltb, eqb, length}
use Rattle.base.specs.Tests.{pick, both, every, all, count, those, occ, last_of, head_of}
use Rattle.drive.specs.Address.{pda, pda_block, lda_block, is_lda, or_nil}
use Rattle.image.specs.View.{View, pair}
use Rattle.volume.specs.Words.{serial_at, relative_at, next_at, previous_at, slot_at, in_use_at, last_block_at, last_address_at, low_number_at, low_address_at, free_head_at, free_tail_at, number_free_at, fib_number}
use Rattle.volume.specs.Search.{seek, down}
use Rattle.volume.specs.declared.Partition.{Partition}
use Rattle.volume.specs.Keys.{home, key_of, number, reach, up, slot, child, first, low, span}

abbrev pub partition_of : ℕ → ℕ → ℕ → Partition
partition_of d s e = record { drive = d; s = s; e = e }

-- block b lies in s+1..e; each block of a list does
unfoldable pub inside : Partition → ℕ → Bool
inside π b = both (ltb π.s b) (leb b π.e)

unfoldable pub within : Partition → List ℕ → Bool
within π [] = true
within π (b ∷ bs) = both (inside π b) (within π bs)

-- a block of s+1..e by its place from 0 on
abbrev pub block_at : Partition → ℕ → ℕ
block_at π i = suc (π.s + i)

module _ (v : View) where
  -- the serial in a block's header, and the key that its relative number is
  abbrev pub serial : ℕ → ℕ
  serial b = pair v b serial_at

  unfoldable pub key : ℕ → ℕ
  key b = key_of (v b relative_at)

  -- L + 1, from 0 to 65535, and the key of block L, or of the FIB if L is -1
  unfoldable pub len : ℕ → ℕ
  len f = (v f last_block_at + 1) % 65536

  abbrev pub end : ℕ → ℕ
  end f = home + len f

  -- an entry of the FIB is asked for by L, or nil
  abbrev pub nil_test : ℕ → ℕ → Bool
  nil_test f k = eqb k home || (ltb (first k) (len f) || eqb (pair v f (slot k)) 0)

module _ (π : Partition) (v : View) where
  -- a candidate: a block of s+1..e whose serial is its own PDA and whose relative number is -1
  unfoldable pub candidate : ℕ → Bool
  candidate f = every (inside π f ∷ eqb (serial v f) (pda π.drive f) ∷ eqb (v f relative_at) fib_number ∷ [])

  -- ---- the index

  -- the block of a key by at most n entries; the FIB is its own
  unfoldable pub spot_in : ℕ → ℕ → ℕ → ℕ
  spot_in zero f k = f
  spot_in (suc n) f k = pick (eqb k home) f (lda_block π.drive (pair v (spot_in n f (up k)) (slot k)))

  -- a key is present if L asks for it, its entry is not nil and its holder is present; the FIB is
  unfoldable pub present_in : ℕ → ℕ → ℕ → Bool
  present_in zero f k = true
  present_in (suc n) f k =
      pick (eqb k home) true (both (ltb (first k) (len v f)) (both (present_in n f (up k)) (not (eqb (pair v (spot_in n f (up k)) (slot k)) 0))))

  unfoldable pub spot : ℕ → ℕ → ℕ
  spot = spot_in 3

  unfoldable pub present : ℕ → ℕ → Bool
  present = present_in 3

  -- block r of the file
  abbrev pub name : ℕ → ℕ → ℕ
  name f r = spot f (292 + r)

  -- the entry of a key
  unfoldable pub entry : ℕ → ℕ → ℕ
  entry f k = pair v (spot f (up k)) (slot k)

  -- the least present key, and how many there are
  unfoldable pub least : ℕ → ℕ
  least f = seek (span (len v f)) (low (len v f)) (present f)

  unfoldable pub size : ℕ → ℕ
  size f = let n = len v f in count (span n) (λ i. present f (low n + i))

  -- blocks in use, last negative number and its address
  unfoldable pub tally : ℕ → Bool
  tally f =
      every (eqb (v f in_use_at) (size f)
      ∷ eqb (v f low_number_at) (number (least f))
      ∷ is_lda π.drive (pair v f low_address_at) (spot f (least f))
      ∷ [])

  -- ---- well formed

  -- the entry of k decodes to a block of s+1..e with the serial PDA(f) and the right relative number
  unfoldable pub named : ℕ → ℕ → Bool
  named f k =
      let b = spot f k in
      every (is_lda π.drive (entry f k) b ∷ inside π b ∷ eqb (serial v b) (pda π.drive f) ∷ eqb (v b relative_at) (number k) ∷ [])

  -- a present key is the FIB's, or named well
  abbrev pub key_test : ℕ → ℕ → Bool
  key_test f k = not (present f k) || (eqb k home || named f k)

  -- a key that L asks for is present
  abbrev pub full_test : ℕ → ℕ → Bool
  full_test f k = not (ltb (first k) (len v f)) || present f k

  -- every key that is present is named well
  unfoldable pub indexed : ℕ → Bool
  indexed f = let n = len v f in all (span n) (λ i. key_test f (low n + i))

  -- every key that L asks for is present
  unfoldable pub gapless : ℕ → Bool
  gapless f = let n = len v f in all (span n) (λ i. full_test f (low n + i))

  -- a candidate is a file if it is well formed
  unfoldable pub well_formed : ℕ → Bool
  well_formed f =
      every (leb (len v f) reach
      ∷ indexed f
      ∷ all 99 (λ i. nil_test v f (257 + i))
      ∷ is_lda π.drive (pair v f last_address_at) (spot f (end v f))
      ∷ gapless f
      ∷ tally f
      ∷ [])

  unfoldable pub is_file : ℕ → Bool
  is_file f = both (candidate f) (well_formed f)

  -- a candidate that is not well formed
  unfoldable pub is_malformed : ℕ → Bool
  is_malformed f = both (candidate f) (not (well_formed f))

  -- ---- owned

  -- a block's file, as its header has it
  abbrev pub file_of : ℕ → ℕ
  file_of b = pda_block π.drive (serial v b)

  -- a file's FIB or a block that its index names: its header leads to a file and a key, and they to this very block
  unfoldable pub owned : ℕ → Bool
  owned b =
      let f = file_of b in
      let k = key v b in
      both (eqb (serial v b) (pda π.drive f)) (both (is_file f) (both (present f k) (eqb (spot f k) b)))

  -- the files, and the blocks that are not owned, in ascending order
  unfoldable pub files : List ℕ
  files = those (suc π.s) (π.e - π.s) is_file

  unfoldable pub unowned : List ℕ
  unowned = those (suc π.s) (π.e - π.s) (λ b. not (owned b))

  -- ---- link order

  -- the next present key above k and below k, or 0
  unfoldable pub above : ℕ → ℕ → ℕ
  above f k = seek (end v f - k) (suc k) (present f)

  unfoldable pub below : ℕ → ℕ → ℕ
  below f k = down (low (len v f)) (k - low (len v f)) (present f)

  -- the link to key k: the PDA of its block, nil for none
  unfoldable pub link : ℕ → ℕ → ℕ
  link f k = pick (eqb k 0) 0 (pda π.drive (spot f k))

  -- entry i of pointer block k is asked for by L, or nil
  abbrev pub tail_test : ℕ → ℕ → ℕ → Bool
  tail_test f k i = ltb (first (child k (slot_at i))) (len v f) || eqb (pair v (spot f k) (slot_at i)) 0

  -- a present key's block is linked to its neighbours, and a pointer block's unused entries are nil
  abbrev pub link_test : ℕ → ℕ → Bool
  link_test f k =
      not (present f k) || every (eqb (pair v (spot f k) next_at) (link f (above f k))
      ∷ eqb (pair v (spot f k) previous_at) (link f (below f k))
      ∷ (leb home k || all 128 (tail_test f k))
      ∷ [])

  unfoldable pub linked : ℕ → Bool
  linked f = let n = len v f in all (span n) (λ i. link_test f (low n + i))

  -- ---- the free chain

  abbrev pub free_head : ℕ
  free_head = lda_block π.drive (pair v π.s free_head_at)

  -- the chain from block b on by its next links, at most k blocks
  unfoldable pub chain : ℕ → ℕ → List ℕ
  chain zero b = []
  chain (suc k) b = let x = pair v b next_at in b ∷ elim (eqb x 0) [ true ↦ [] | false ↦ chain k (pda_block π.drive x) ]

  unfoldable pub free : List ℕ
  free = chain (π.e - π.s) free_head

  -- consecutive blocks of a list are linked both ways, nil at the end; `before` is the block behind the first, or 0
  unfoldable pub chained : ℕ → List ℕ → Bool
  chained before [] = true
  chained before (b ∷ bs) = both (eqb (pair v b previous_at) (or_nil π.drive before)) (both (eqb (pair v b next_at) (or_nil π.drive (head_of 0 bs))) (chained b bs))

  -- ---- sound

  -- block i of s+1..e is no candidate, or a file that is linked
  abbrev pub file_test : ℕ → Bool
  file_test i = let f = block_at π i in not (candidate f) || both (well_formed f) (linked f)

  -- block i of s+1..e stands in a list once if it is not owned, and never if it is
  abbrev pub once_test : List ℕ → ℕ → Bool
  once_test c i = let b = block_at π i in eqb (occ b c) (pick (owned b) 0 1)

  -- from FreeHead the next links visit every block that is not owned exactly once and no other, previous links reversed, nil at the
  -- ends, ending at FreeTail; NumberFree is their number, at least 1
  unfoldable pub free_sound : Bool
  free_sound =
      let c = free in
      every (all (π.e - π.s) (once_test c)
      ∷ within π c
      ∷ chained 0 c
      ∷ is_lda π.drive (pair v π.s free_head_at) (head_of 0 c)
      ∷ is_lda π.drive (pair v π.s free_tail_at) (last_of 0 c)
      ∷ eqb (pair v π.s number_free_at) (length c)
      ∷ ltb 0 (length c)
      ∷ [])

  unfoldable pub sound : Bool
  sound = both (all (π.e - π.s) file_test) free_sound
