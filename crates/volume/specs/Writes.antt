-- Write of the block behind the last: which blocks are new, what every block of the file holds afterwards, and, apart from that, the order
-- of the stores.
use Rattle.std.specs.Prelude.{Bool, ◌||◌, List, [], ◌∷◌, ◌++◌, map, ℕ, zero, suc, ◌+◌, ◌-◌, leb, eqb}
use Rattle.base.specs.Tests.{pick, both, count}
use Rattle.drive.specs.Address.{pda, lda, address}
use Rattle.image.specs.View.{View, Rec, Store, pair, put, put2, blank}
use Rattle.image.specs.Saves.{with_data}
use Rattle.volume.specs.Words.{serial_at, relative_at, filler_at, next_at, previous_at, last_block_at, last_address_at, in_use_at, low_number_at, low_address_at}
use Rattle.volume.specs.Search.{seek, down}
use Rattle.volume.specs.Keys.{home, number, up, slot, low, span}
use Rattle.volume.specs.Files.{end, spot, present, least}
use Rattle.volume.specs.declared.Partition.{Partition}
use Rattle.volume.specs.Plans.{Plan, st, free_at, taken_stores}

-- a record with the pair of words from i on replaced where t holds
unfoldable pub put2_if : Bool → ℕ → ℕ → Rec → Rec
put2_if t i x r = pick t (put2 i x r) r

-- block r by its key, and the keys over it, up to the FIB
unfoldable pub over : ℕ → ℕ → ℕ
over r zero = 292 + r
over r (suc i) = up (over r i)

-- a FIB with z blocks in use, last negative number m and its address x
unfoldable pub counted : ℕ → ℕ → ℕ → Rec → Rec
counted z m x r = put in_use_at z (put low_number_at m (put2 low_address_at x r))

-- keys but for the FIB's
unfoldable pub inner : List ℕ → List ℕ
inner [] = []
inner (k ∷ ks) = pick (eqb k home) (inner ks) (k ∷ inner ks)

module _ (π : Partition) (v : View) where
  module _ (f r : ℕ) where
    -- how many blocks are new: the data block, and the pointer blocks over it that are absent
    unfoldable pub needs : ℕ
    needs = pick (present π v f (over r 1)) 1 (pick (present π v f (over r 2)) 2 3)

    -- key k is the one with place i among the new ones; is new; its block, the free block with its place
    abbrev pub newly : ℕ → ℕ → Bool
    newly i k = both (leb (suc i) needs) (eqb k (over r i))

    unfoldable pub is_new : ℕ → Bool
    is_new k = newly 0 k || (newly 1 k || newly 2 k)

    unfoldable pub fresh : ℕ → ℕ
    fresh k = pick (newly 0 k) (free_at π v 0) (pick (newly 1 k) (free_at π v 1) (free_at π v 2))

    -- the file of r + 1 blocks afterwards: what is present, and where; link order
    unfoldable pub present' : ℕ → Bool
    present' k = is_new k || present π v f k

    unfoldable pub spot' : ℕ → ℕ
    spot' k = pick (is_new k) (fresh k) (spot π v f k)

    unfoldable pub above' : ℕ → ℕ
    above' k = seek (home + suc r - k) (suc k) present'

    unfoldable pub below' : ℕ → ℕ
    below' k = down (low (suc r)) (k - low (suc r)) present'

    unfoldable pub least' : ℕ
    least' = seek (span (suc r)) (low (suc r)) present'

    unfoldable pub size' : ℕ
    size' = count (span (suc r)) (λ i. present' (low (suc r) + i))

    unfoldable pub link' : ℕ → ℕ
    link' k = pick (eqb k 0) 0 (pda π.drive (spot' k))

    -- the keys whose stores come before the FIB's, but for the FIB: the data block; the pointer block over it; -2 or -3 where it is new or
    -- gains an entry; the neighbours of a new one, below and above; the old last block; the old first one where a pointer block is new
    unfoldable pub early : List ℕ
    early =
        over r 0 ∷ inner (over r 1
        ∷ pick (leb 2 needs) (over r 2 ∷ []) []
        ++ pick (leb 3 needs) (below' (over r 2) ∷ above' (over r 2) ∷ []) []
        ++ end v f
        ∷ pick (leb 2 needs) (least π v f ∷ []) [])

    -- the last address and the last negative address
    abbrev pub last_address : ℕ
    last_address = address π.drive (pair v f last_address_at) (free_at π v 0)

    abbrev pub low_address : ℕ
    low_address = address π.drive (pair v f low_address_at) (spot' least')

    module _ (dat : Rec) where
      -- a new block
      unfoldable pub empty : ℕ → Rec
      empty k = put2 serial_at (pda π.drive f) (put relative_at (number k) (put filler_at (v (fresh k) filler_at) blank))

      unfoldable pub base : ℕ → Rec
      base k = pick (is_new k) (pick (eqb k (over r 0)) (with_data dat (empty k)) (empty k)) (v (spot π v f k))

      -- k names the new key with place i; with the entries of the new keys that it names
      abbrev pub holds : ℕ → ℕ → Bool
      holds i k = both (leb (suc i) needs) (eqb (over r (suc i)) k)

      unfoldable pub entered : ℕ → Rec → Rec
      entered k x =
          put2_if (holds 0 k) (slot (over r 0)) (lda π.drive (free_at π v 0))
          (put2_if (holds 1 k) (slot (over r 1)) (lda π.drive (free_at π v 1)) (put2_if (holds 2 k) (slot (over r 2)) (lda π.drive (free_at π v 2)) x))

      -- with L and its address
      unfoldable pub ended : Rec → Rec
      ended x = put last_block_at r (put2 last_address_at last_address x)

      -- the record of key k afterwards
      unfoldable pub body : ℕ → Rec
      body k = pick (eqb k home) (counted size' (number least') low_address (ended (entered home (v f)))) (entered k (base k))

      unfoldable pub grown : ℕ → Rec
      grown k = put2 next_at (link' (above' k)) (put2 previous_at (link' (below' k)) (body k))

      abbrev pub store : ℕ → Store
      store k = st (spot' k) (grown k)

      -- the stores: those of the keys fr, then the FIB's, which decides
      unfoldable pub plan_of : List ℕ → Plan
      plan_of fr = record { before = map store fr; deciding = store home; rest = taken_stores π v needs }

      unfoldable pub write_plan : Plan
      write_plan = plan_of early

      -- a block that is there gets other data
      unfoldable pub replace_plan : Plan
      replace_plan = let b = spot π v f (over r 0) in record { before = []; deciding = st b (with_data dat (v b)); rest = [] }
