use Rattle.std.proofs.Common.{length, ◌*◌, ◌-◌}
use Rattle.directory.specs.Directory.{selected, entries, tree, walked}
use Rattle.image.specs.Stores.{lay}
use Rattle.tree.specs.Walks.{writes, Leaves}
use Rattle.tree.proofs.walk.+walk.Given as goal

abbrev pub decreases-walk : goal.decreases-walk
decreases-walk l = l.left

abbrev pub invariant-loop-j : goal.invariant-loop-j
invariant-loop-j l =
    let sel = selected l.directories.rule.weights.now in
    let whole = tree l.directories.volume.p l.directories.volume.img.now sel l.left l.f in
    Leaves l.most l.on (length l.initial.rows) (lay l.initial.rows (32 * l.n) (writes l.on (l.most - l.n) whole)) (walked l.most whole l.n) (entries l.directories.volume.p l.directories.volume.img.now sel (tree l.directories.volume.p l.directories.volume.img.now sel l.below) l.level l.f l.j (l.end - l.j)) l.at l.rows
