use mathlib.Core.Path.{sym, ◌∙◌}
use native.Mathlib.Omega.{arith}
use Rattle.volume.specs.Answers.{end_of, partition}
use Rattle.volume.proofs.Readings.{image_blocks, part_start}
use Rattle.inspect.proofs.partition.Goals as goal

pub returns-then-not-image_good : goal.returns-then-not-image_good
unfolding partition
returns-then-not-image_good c = rw (sym c.image_good.ensures ∙ c.if-not-image_good.true, partition)

pub part_good-requires : goal.part_good-requires
part_good-requires c = let b = image_blocks _ _ (sym c.image_good.ensures ∙ c.if-not-image_good.false) in (b.0, b.1)

pub pair-requires : goal.pair-requires
pair-requires c = (omega (arith, part_start _ _ _ _ (sym c.part_good.ensures ∙ c.if-part_good.true)), omega arith)

pub returns-then-part_good : goal.returns-then-part_good
unfolding partition end_of
returns-then-part_good c = rw (sym c.image_good.ensures ∙ c.if-not-image_good.false, sym c.part_good.ensures ∙ c.if-part_good.true, partition) (rw (c.lda_block.ensures.0, c.pair.ensures.0))

pub returns-else-part_good : goal.returns-else-part_good
unfolding partition
returns-else-part_good c = rw (sym c.image_good.ensures ∙ c.if-not-image_good.false, sym c.part_good.ensures ∙ c.if-part_good.false, partition)
