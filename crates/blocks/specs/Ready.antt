-- What repair has of the partition at every block.
use Rattle.std.specs.Prelude.{List, ℕ}
use Rattle.image.specs.Image.{view}
use Rattle.volume.specs.declared.Partition.{Partition}
use Rattle.volume.specs.Answers.{Unmarred}
use Rattle.volume.specs.Reads.{Lies}

-- a partition of the image with no malformed candidate
pub record Ready (π : Partition) (l : List ℕ) : Type 0 where
  pub lies : Lies π l
  pub none : Unmarred π (view l)
