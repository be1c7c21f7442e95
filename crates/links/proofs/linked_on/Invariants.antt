use Prim.Native.Nat.{◌+◌, ◌-◌}
use Rattle.image.specs.Image.{view}
use Rattle.links.proofs.Walk.{Held, Linking}
use Rattle.links.proofs.linked_on.Given as goal

abbrev pub invariant-loop-k : goal.invariant-loop-k
invariant-loop-k l = (Linking l.file.volume.p l.file.volume.img.now l.file.f l.k l.before l.b l.own) × (Held l.file.volume.p (view l.file.volume.img.now) l.file.f l.q l.k)

abbrev pub decreases-loop-k : goal.decreases-loop-k
decreases-loop-k l = 292 + l.n - l.k
