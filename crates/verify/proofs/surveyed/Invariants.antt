use Prim.Native.Nat.{suc, ◌≤◌}
use Rattle.image.specs.Image.{view}
use Rattle.verify.proofs.Surveys.{Passed}
use Rattle.verify.proofs.surveyed.Given as goal

abbrev pub invariant-loop-f : goal.invariant-loop-f
invariant-loop-f l = Passed l.volume.p (view l.volume.img.now) l.f l.files l.owned × (l.f ≤ suc l.volume.p.e)
