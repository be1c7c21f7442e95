use Prim.Native.Nat.{◌+◌, ◌*◌, ◌≤◌}
use Rattle.volume.proofs.Steps.{Searching}
use Rattle.directory.specs.Directory as defs
use Rattle.directory.proofs.Rule.find.Given as goal

abbrev pub invariant-loop-i : goal.invariant-loop-i
invariant-loop-i l = (Searching (defs.hit l.file.volume.p l.file.volume.img.now (defs.selected l.self.weights.now) l.part l.file.f) (16 * l.k) (16 * l.r + l.i) (defs.find l.file.volume.p l.file.volume.img.now (defs.selected l.self.weights.now) l.part l.file.f)) × (l.i ≤ 16)

abbrev pub invariant-loop-r : goal.invariant-loop-r
invariant-loop-r l = (Searching (defs.hit l.file.volume.p l.file.volume.img.now (defs.selected l.self.weights.now) l.part l.file.f) (16 * l.k) (16 * l.r) (defs.find l.file.volume.p l.file.volume.img.now (defs.selected l.self.weights.now) l.part l.file.f)) × (l.r ≤ l.k)
