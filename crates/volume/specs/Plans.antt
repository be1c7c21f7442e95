-- The stores of each changing call but write, in order. A record is the one that stands there now with some of its words replaced, or a
-- blank one.
use Rattle.std.specs.Prelude.{Bool, List, [], ◌∷◌, ◌++◌, ℕ, zero, suc, ◌+◌, ◌-◌, ◌%◌, leb, ltb, eqb, length}
use Rattle.base.specs.Tests.{pick, both, tab_from, last_of, head_of}
use Rattle.base.specs.Tests as tests
use Rattle.drive.specs.Address.{pda, pda_block, lda, lda_block, or_nil, address}
use Rattle.image.specs.View.{View, Rec, Store, pair, put, put2, blank}
use Rattle.image.specs.Saves.{with_text}
use Rattle.volume.specs.Words.{serial_at, relative_at, filler_at, next_at, previous_at, kind_at, in_use_at, last_block_at, last_address_at, low_number_at, low_address_at, free_head_at, free_tail_at, number_free_at, fib_number}
use Rattle.volume.specs.Keys.{home, child, first}
use Rattle.volume.specs.Files.{len, end, spot, file_of, key, owned, unowned, above, below, least, size, link, free_head}
use Rattle.volume.specs.declared.Partition.{Partition}

abbrev pub st : ℕ → Rec → Store
st b r = record { at = b; rec = r }

-- the stores of a call: those before the deciding one, that one, and the rest
pub record Plan : Type 0 where
  pub before : List Store
  pub deciding : Store
  pub rest : List Store

unfoldable pub stores : Plan → List Store
stores p = p.before ++ (p.deciding ∷ p.rest)

-- the low 16 bits of a block number, as filler
abbrev pub as_filler : ℕ → ℕ
as_filler b = b % 65536

-- ---- records that allocation writes, on drive d

-- block g as the new first free block: previous nil, its own LBN as filler
unfoldable pub new_first : View → ℕ → Rec
new_first v g = put2 previous_at 0 (put filler_at (as_filler g) (v g))

module _ (d : ℕ) (v : View) where
  -- the PIB s with n free blocks fewer, from g on
  unfoldable pub pib_less : ℕ → ℕ → ℕ → Rec
  pib_less s g n = put2 free_head_at (address d (pair v s free_head_at) g) (put2 number_free_at (pair v s number_free_at - n) (v s))

  -- block h as the FIB of an empty file: L = -1, description zero, its filler kept
  unfoldable pub fresh_fib : ℕ → ℕ → Rec
  fresh_fib h kind =
      put2 serial_at (pda d h) (put relative_at fib_number (put filler_at (v h filler_at)
      (put kind_at kind (put in_use_at 1 (put last_block_at 65535 (put2 last_address_at (lda d h) (put low_number_at fib_number (put2 low_address_at (lda d h) blank))))))))

-- ---- records that destroy writes: h is FreeHead's block, tail FreeTail's

-- the last block of the file, and its store if the file is not empty
unfoldable pub gone : View → ℕ → ℕ → Rec
gone v h b = put2 serial_at 0 (put filler_at (as_filler h) (v b))

unfoldable pub last_gone_stores : View → ℕ → ℕ → Bool → List Store
last_gone_stores v h last empty = pick empty [] (st last (gone v h last) ∷ [])

module _ (d : ℕ) (v : View) where
  -- the first block, which follows the old free tail; the FIB, which is the first where `alone`
  unfoldable pub top_gone : ℕ → ℕ → ℕ → Rec
  top_gone h tail b = put2 previous_at (pda d tail) (gone v h b)

  unfoldable pub fib_gone : ℕ → ℕ → ℕ → Bool → Rec
  fib_gone h tail f alone = pick alone (top_gone h tail f) (put2 serial_at 0 (v f))

  -- the store of the first block, if it is not the FIB
  unfoldable pub top_gone_stores : ℕ → ℕ → ℕ → Bool → List Store
  top_gone_stores h tail top alone = pick alone [] (st top (top_gone h tail top) ∷ [])

  -- the PIB s with n free blocks more, the last of them `last`
  unfoldable pub pib_more : ℕ → ℕ → ℕ → Rec
  pib_more s last n = put2 free_tail_at (address d (pair v s free_tail_at) last) (put2 number_free_at (pair v s number_free_at + n) (v s))

  -- all its stores, of a file with n blocks in use
  unfoldable pub destroyed : ℕ → ℕ → Bool → Bool → ℕ → ℕ → ℕ → ℕ → ℕ → Plan
  destroyed s f alone empty n top last tail h =
      record {
        before = [];
        deciding = st f (fib_gone h tail f alone);
        rest = top_gone_stores h tail top alone ++ (last_gone_stores v h last empty
            ++ (st tail (put2 next_at (pda d top) (v tail)) ∷ (st s (pib_more s last n) ∷ [])));
      }

-- ---- the plans, of a partition

-- pointer block k of a file with n blocks, the entries that L does not ask for nil
unfoldable pub trimmed : ℕ → ℕ → Rec → Rec
trimmed n k r w = pick (both (leb 8 w) (leb n (first (child k w)))) 0 (r w)

-- what repair leaves of the words of the block with key k in a file with n blocks, but for its links
unfoldable pub shaped : ℕ → ℕ → Rec → Rec
shaped n k r = pick (ltb k home) (trimmed n k r) r

unfoldable pub describe_plan : View → ℕ → Rec → Plan
describe_plan v f dat = record { before = []; deciding = st f (with_text dat (v f)); rest = [] }

module _ (π : Partition) (v : View) where
  -- the free blocks in order; the block that FreeTail names
  unfoldable pub free_at : ℕ → ℕ
  free_at zero = free_head π v
  free_at (suc i) = pda_block π.drive (pair v (free_at i) next_at)

  abbrev pub free_tail : ℕ
  free_tail = lda_block π.drive (pair v π.s free_tail_at)

  -- a call that takes the first n free blocks stores the next one and the PIB at its end
  unfoldable pub taken_stores : ℕ → List Store
  taken_stores n = st (free_at n) (new_first v (free_at n)) ∷ (st π.s (pib_less π.drive v π.s (free_at n) n) ∷ [])

  unfoldable pub create_plan : ℕ → Plan
  create_plan kind = record { before = []; deciding = st (free_at 0) (fresh_fib π.drive v (free_at 0) kind); rest = taken_stores 1 }

  unfoldable pub destroy_plan : ℕ → Plan
  destroy_plan f =
      let top = spot π v f (least π v f) in
      let last = spot π v f (end v f) in
      destroyed π.drive v π.s f (eqb (least π v f) home) (eqb (len v f) 0) (size π v f) top last free_tail (free_head π v)

  -- ---- repair

  -- an owned block, its links by the index
  unfoldable pub content : ℕ → Rec
  content b = shaped (len v (file_of π v b)) (key v b) (v b)

  unfoldable pub relinked : ℕ → Rec
  relinked b =
      let f = file_of π v b in
      let k = key v b in
      put2 next_at (link π v f (above π v f k)) (put2 previous_at (link π v f (below π v f k)) (content b))

  -- an unowned block, in the ascending chain of the blocks fr
  unfoldable pub freed : List ℕ → ℕ → Rec
  freed fr b = put2 serial_at 0 (put filler_at (as_filler (head_of 0 fr)) (put2 next_at (or_nil π.drive (tests.above b fr)) (put2 previous_at (or_nil π.drive (tests.below b fr)) (v b))))

  unfoldable pub repaired : List ℕ → ℕ → Rec
  repaired fr b = pick (owned π v b) (relinked b) (freed fr b)

  unfoldable pub repaired_pib : List ℕ → Rec
  repaired_pib fr =
      put2 free_head_at (address π.drive (pair v π.s free_head_at) (head_of 0 fr)) (put2 free_tail_at (address π.drive (pair v π.s free_tail_at) (last_of 0 fr))
      (put2 number_free_at (length fr) (v π.s)))

  unfoldable pub repair_plan : Plan
  repair_plan =
      let fr = unowned π v in
      record {
        before = tab_from (suc π.s) (π.e - π.s) (λ b. st b (repaired fr b));
        deciding = st π.s (repaired_pib fr);
        rest = [];
      }

  abbrev pub repair_stores : List Store
  repair_stores = stores repair_plan
