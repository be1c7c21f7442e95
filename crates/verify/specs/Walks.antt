-- The walk of the free chain as the code makes it, and what check counts.
use Rattle.std.specs.Prelude.{Bool, not, ℕ, zero, suc, ◌+◌, ◌-◌, eqb, [], ◌∷◌, Result, Ok, Err}
use Rattle.base.specs.Tests.{pick, both, every}
use Rattle.drive.specs.Address.{pda, pda_block, is_lda}
use Rattle.image.specs.View.{View, pair}
use Rattle.volume.specs.Words.{next_at, previous_at, free_head_at, free_tail_at, number_free_at}
use Rattle.volume.specs.Files.{block_at, inside, owned, free_head}
use Rattle.volume.specs.declared.Partition.{Partition}
use Rattle.verify.specs.declared.Step.{Step}
use Rattle.verify.specs.declared.Step.TheVariants.{Bad, End, On}
use Rattle.verify.specs.declared.Chain.{Chain}

-- where the next link x leads: nil is the end, and the PDA of a block of s+1..e that block
unfoldable pub onward : Partition → ℕ → Step
onward π x = let c = pda_block π.drive x in pick (eqb x 0) End (pick (both (inside π c) (eqb (pda π.drive c) x)) (On c) Bad)

module _ (π : Partition) (v : View) where
  -- from block b, whose previous link should be `before`
  unfoldable pub step_at : ℕ → ℕ → Step
  step_at before b = pick (owned π v b) Bad (pick (eqb (pair v b previous_at) before) (onward π (pair v b next_at)) Bad)

  -- at most k blocks from b on, with n passed, the last of which has the address `before`: how many blocks there are and the last, or the
  -- block with the first wrong link
  unfoldable pub walk : ℕ → ℕ → ℕ → ℕ → Result Chain ℕ
  walk zero before b n = Err b
  walk (suc k) before b n =
      elim (step_at before b) [ Bad ↦ Err b | End ↦ Ok (record { blocks = n + 1; last = b }) | On c ↦ walk k (pda π.drive b) c (n + 1) ]

  unfoldable pub walked : Result Chain ℕ
  walked = pick (inside π (free_head π v)) (walk (π.e - π.s) 0 (free_head π v) 0) (Err π.s)

  -- FreeHead is an LDA, FreeTail that of the last block, and NumberFree is n
  unfoldable pub named : ℕ → ℕ → Bool
  named n last =
      every (is_lda π.drive (pair v π.s free_head_at) (free_head π v)
      ∷ is_lda π.drive (pair v π.s free_tail_at) last
      ∷ eqb (pair v π.s number_free_at) n
      ∷ [])

  -- block i of s+1..e is not owned
  abbrev pub free_at : ℕ → Bool
  free_at i = not (owned π v (block_at π i))
