-- What a write of the block behind the last starts from: the file, and the blocks that the write takes.
use Rattle.std.specs.Prelude.{◌≡◌, List, ℕ, ◌≤◌, ◌<◌}
use Rattle.image.specs.Image.{view}
use Rattle.volume.specs.Keys.{reach}
use Rattle.volume.specs.Files.{len}
use Rattle.volume.specs.Plans.{free_at}
use Rattle.volume.specs.Writes.{needs}
use Rattle.inspect.specs.Parts.{Opened}
use Rattle.records.specs.Records.{Block}
use Rattle.append.specs.declared.Append.{Append}

pub record Appends (w : Append) (l : List ℕ) : Type 0 where
  pub opened : Opened w.p l w.f
  pub next : w.n ≡ len (view l) w.f
  pub far : w.n < reach
  pub many : w.m ≡ needs w.p (view l) w.f w.n
  pub first : w.a ≡ free_at w.p (view l) 0
  pub second : w.q ≡ free_at w.p (view l) 1
  pub third : w.d ≡ free_at w.p (view l) 2
  pub after : w.g ≡ free_at w.p (view l) w.m
  pub room : (i : ℕ) → i ≤ w.m → Block l (free_at w.p (view l) i)
  pub s_in : Block l w.p.s
  pub f_in : Block l w.f
  pub a_in : Block l w.a
  pub g_in : Block l w.g
