-- One pass over the blocks: how each stands, and what the files come to; and why a partition that is not sound is refused.
use Rattle.std.specs.Prelude.{Bool, ℕ, ◌-◌, Option, Some, None}
use Rattle.base.specs.Tests.{pick, both, all, count}
use Rattle.base.specs.Sums.{sum}
use Rattle.base.specs.declared.Refusal.{Refusal}
use Rattle.base.specs.declared.Refusal.TheVariants.{Malformed, Unsound}
use Rattle.image.specs.View.{View}
use Rattle.volume.specs.Files.{block_at, well_formed, linked, is_file, size, file_test}
use Rattle.volume.specs.declared.Partition.{Partition}
use Rattle.volume.specs.Answers.{lowest_malformed}
use Rattle.frame.specs.Needed.{needs}

module _ (π : Partition) (v : View) where
  -- block i of s+1..e is a file; how many blocks it has, 0 for any other
  abbrev pub file_at : ℕ → Bool
  file_at i = is_file π v (block_at π i)

  abbrev pub size_at : ℕ → ℕ
  size_at i = needs π v (block_at π i)

  -- how many blocks candidate f has, if it is a file that is linked
  unfoldable pub standing : ℕ → Option ℕ
  standing f = pick (both (well_formed π v f) (linked π v f)) (Some (size π v f)) None

  -- where every candidate is a file that is linked: how many files there are, and how many blocks they have
  unfoldable pub survey : Option (ℕ × ℕ)
  survey = let m = π.e - π.s in pick (all m (file_test π v)) (Some (count m file_at, sum m size_at)) None

-- 4 before 5: by the lowest malformed candidate, if there is one
abbrev pub fault_by : Option ℕ → Refusal
fault_by (Some f) = Malformed f
fault_by None = Unsound

abbrev pub fault : Partition → View → Refusal
fault π v = fault_by (lowest_malformed π v)
