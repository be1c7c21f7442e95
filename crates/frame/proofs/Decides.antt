-- A run of stores with a deciding one x: those before it change no file, it changes f alone, the rest change no file. What every call owes.
use Rattle.std.specs.Prelude.{◌≡◌, ◌≢◌, List, [], true, ℕ}
use Rattle.image.specs.View.{View, Store, after, upd}
use Rattle.volume.specs.Files.{unowned, candidate, well_formed}
use Rattle.volume.specs.declared.Partition.{Partition}
use Rattle.volume.specs.Plans.{Plan}
use Rattle.frame.proofs.Turn.{Each, Calm, Turn}

pub record Decides (π : Partition) (v : View) (before : List Store) (x : Store) (rest : List Store) (f : ℕ) : Type 0 where
  pub early : Each (Calm π v) before
  pub turn : Turn π v (upd (after before v) x.at x.rec) f
  pub form : candidate π (upd (after before v) x.at x.rec) f ≡ true → well_formed π (upd (after before v) x.at x.rec) f ≡ true
  pub left : unowned π (upd (after before v) x.at x.rec) ≢ []
  pub late : Each (Calm π (upd (after before v) x.at x.rec)) rest

-- the same of a plan
abbrev pub Good : Partition → View → Plan → ℕ → Type 0
Good π v p f = Decides π v p.before p.deciding p.rest f
