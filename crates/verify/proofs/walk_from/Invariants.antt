use Prim.Native.Nat.{◌-◌}
use Rattle.image.specs.Image.{view}
use Rattle.verify.specs.Walks.{walk}
use Rattle.verify.proofs.Free.{Walking}
use Rattle.verify.proofs.walk_from.Given as goal

abbrev pub invariant-loop-n : goal.invariant-loop-n
invariant-loop-n l = Walking l.clean.volume.p (view l.clean.volume.img.now) l.most l.before l.own l.b l.n (walk l.clean.volume.p (view l.clean.volume.img.now) (l.clean.volume.p.e - l.clean.volume.p.s) 0 l.head 0)
