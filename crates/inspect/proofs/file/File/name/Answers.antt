use native.Mathlib.Omega.{arith}
use borrow.Author.Rules.{rules}
use Rattle.volume.specs.Files.{len}
use Rattle.volume.specs.Keys.{reach}
use Rattle.std.specs.Prelude.{◌≤◌}
use Rattle.image.specs.Image.{view}
use Rattle.inspect.proofs.Laws.{opened_few, opened_data}
use Rattle.inspect.proofs.file.File.name.Goals as goal

pub overflow_add-r : goal.overflow_add-r
overflow_add-r c =
    let file = c.args.self.now in
    let few : len (view file.volume.img.now) file.f ≤ reach = opened_few {π = file.volume.p} (search rules) in omega arith

pub spot-requires : goal.spot-requires
spot-requires c = opened_data (search rules) _ c.requires
