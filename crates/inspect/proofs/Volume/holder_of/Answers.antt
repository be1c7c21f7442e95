use mathlib.Core.Path.{ap, ◌∙◌}
use native.Mathlib.Omega.{arith}
use Rattle.volume.specs.Files.{spot}
use Rattle.inspect.proofs.Laws.{read_few, read_holder, read_bits, read_is, holder_there, through_there, through_inner, through_pos}
use Rattle.inspect.proofs.Volume.holder_of.Goals as goal

pub through-u-requires : goal.through-u-requires
through-u-requires c =
    let h = c.requires in (read_few h.0 _ h.1).1

pub holder-q-requires : goal.holder-q-requires
holder-q-requires c =
    let h = c.requires in let t = c.through-u.ensures in (h.0.here, through_pos h.0 _ h.1 t.0 t.1, t.2)

pub read-requires : goal.read-requires
read-requires c =
    let h = c.requires in
    let t = c.through-u.ensures in
    let k = c.if-k-gt355.true in
    let z = rw (← c.holder-q.ensures.0) at (read_holder h.0 _ (through_there h.0 _ h.1 t.0 k)) in
    (omega (arith, h.0.lies.within, z), omega (arith, t.2))

pub returns-then-k-gt355 : goal.returns-then-k-gt355
returns-then-k-gt355 c =
    let h = c.requires in
    let t = c.through-u.ensures in
    let k = c.if-k-gt355.true in
    read_is h.0 _ _ (holder_there h.0 _ h.1) (c.read.ensures ∙ read_bits h.0 _ (through_there h.0 _ h.1 t.0 k) (through_inner h.0 _ h.1 t.0 k) c.holder-q.ensures.0 ∙ ap (spot _ _ _) (t.0 k))

pub returns-else-k-gt355 : goal.returns-else-k-gt355
returns-else-k-gt355 c =
    let h = c.requires in
    read_is h.0 _ _ (holder_there h.0 _ h.1) (rw (c.through-u.ensures.1 c.if-k-gt355.false) at c.holder-q.ensures.0)
