-- In a sound partition the free blocks are those that the files do not need: m - 1 blocks in all.
use Rattle.std.specs.Prelude.{◌≡◌, true, not, ◌+◌, ◌-◌, ◌<◌}
use Rattle.std.proofs.Common.{◌∙◌, arith}
use Rattle.base.specs.Tests.{count}
use Rattle.image.specs.View.{View, pair}
use Rattle.volume.specs.Files.{block_at, owned, free, sound}
use Rattle.volume.specs.declared.Partition.{Partition}
use Rattle.frame.specs.Sound.{sound_once, sound_within, sound_number}
use Rattle.base.specs.Sums.{count_both}
use Rattle.frame.specs.Needed.{needed, owned_needed}
use Rattle.volume.specs.Words.{number_free_at}
use Rattle.frame.proofs.FreeChain.{length_unowned}

module _ (π : Partition) (v : View) where
  -- the free chain has the others
  pub free_unowned : π.s < π.e → sound π v ≡ true → pair v π.s number_free_at ≡ count (π.e - π.s) (λ i. not (owned π v (block_at π i)))
  free_unowned low ok = sound_number π v ok ∙ length_unowned π v (free π v) low (sound_within π v ok) (sound_once π v ok)

  -- free and needed: m - 1
  pub free_and_needed : π.s < π.e → sound π v ≡ true → pair v π.s number_free_at + needed π v ≡ π.e - π.s
  free_and_needed low ok = omega (arith, free_unowned low ok, owned_needed π v, count_both (π.e - π.s) (λ i. owned π v (block_at π i)))
