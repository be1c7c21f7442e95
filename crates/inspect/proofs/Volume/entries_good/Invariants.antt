use mathlib.Core.Path.{◌≡◌}
use mathlib.Core.Bool.{true}
use Prim.Native.Nat.{◌+◌, ◌-◌, ◌*◌}
use Rattle.image.specs.Image.{view}
use Rattle.volume.specs.Keys.{low}
use Rattle.volume.proofs.Steps.{Indexed}
use Rattle.inspect.specs.Form.{pointer_test, data_test, entries_good}
use Rattle.inspect.proofs.Volume.entries_good.Given as goal

abbrev pub invariant-loop-j : goal.invariant-loop-j
invariant-loop-j l = (l.good ≡ true) × Indexed (pointer_test l.self.p (view l.self.img.now) l.f) (data_test l.self.p (view l.self.img.now) l.f) (289 - low l.n) l.n (l.i + 1) (64 + 128 * l.i + l.j) (entries_good l.self.p (view l.self.img.now) l.f l.n)

abbrev pub decreases-loop-j : goal.decreases-loop-j
decreases-loop-j l = l.m - l.j

abbrev pub invariant-index : goal.invariant-index
invariant-index l = (l.good ≡ true) × Indexed (pointer_test l.self.p (view l.self.img.now) l.f) (data_test l.self.p (view l.self.img.now) l.f) (289 - low l.n) l.n l.i (64 + 128 * l.i) (entries_good l.self.p (view l.self.img.now) l.f l.n)

abbrev pub decreases-index : goal.decreases-index
decreases-index l = l.pointers - l.i
