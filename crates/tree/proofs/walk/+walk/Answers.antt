use mathlib.Core.Path.{sym, ap, ◌∙◌}
use Prim.Native.Nat.{ℕ, ◌*◌}
use native.Mathlib.Omega.{arith}
use Rattle.std.proofs.Common.{rules}
use Rattle.std.proofs.lemmas.Result.{err_from_is_err_and}
use Rattle.directory.specs.Entries.{met_is_file}
use Rattle.directory.proofs.Laws.{file_opened}
use Rattle.tree.specs.Items.{tree_sized}
use Rattle.tree.specs.Walks.{leaves_all, walk_deep, walk_starts, walk_ends, walk_skip, walk_full, walk_row, walk_back, walk_stopped}
use Rattle.tree.proofs.walk.+walk.Goals as goal
use Rattle.tree.proofs.walk.+walk.Goals.{in-Directory+in_ok-at, in_default-target}

pub returns-then-left-lt1 : goal.returns-then-left-lt1
returns-then-left-lt1 t c = walk_deep _ _ _ _ _ (leaves_all _ c.args.on _ _ _ c.requires.2) c.if-left-lt1.true

pub invariant_of-file : goal.invariant_of-file
invariant_of-file t c = record { opened = file_opened _ _ c.args.directories.now.volume.lies _ c.requires.0 }

pub loop-j-init : goal.loop-j-init
loop-j-init t c = walk_starts _ _ _ _ _ _ _ _ (leaves_all _ _ _ _ _ c.requires.2) (let z = c.if-left-lt1.false in omega arith) (let z = c.if-left-lt1.false in omega arith) (ap (λ (k : ℕ). 16 * k) c.len-end.ensures.0)

pub loop-j-preserved-in_default : goal.loop-j-preserved-in_default
loop-j-preserved-in_default t c = walk_skip _ _ _ _ _ _ _ _ c.loop-j.invariant c.loop-j-test.true c.met.ensures c.in_default.is

pub returns-then-most-at : goal.returns-then-most-at
returns-then-most-at t c = walk_full _ _ _ _ _ _ _ _ c.loop-j.invariant c.loop-j-test.true c.met.ensures c.in-Some.is c.if-most-at.true

pub walk-requires : goal.walk-requires
walk-requires t c = (search rules, (met_is_file _ _ _ _ _ (sym c.met.ensures ∙ c.in-Some.is) c.in-Directory.is, search rules, search rules, c.requires.3))

pub loop-j-preserved : goal.loop-j-preserved
loop-j-preserved t c =
    elim c.match-target.branch [
      | in-Directory+in_ok-at w ↦
          rw (w.at-is, w.rows-is) (walk_back _ _ _ _ _ _ _ _ c.loop-j.invariant c.loop-j-test.true c.met.ensures c.in-Some.is c.if-most-at.false c.entry_row.ensures c.entry_row.auto.rows w.in-Directory.is
          (tree_sized _ _ _ _ _ (met_is_file _ _ _ _ _ (sym c.met.ensures ∙ c.in-Some.is) w.in-Directory.is)) w.walk.ensures.0 w.walk.ensures.1 w.in_ok-at.was w.walk.auto.rows)
      | in_default-target w ↦
          rw (w.at-is, w.rows-is) (walk_row _ _ _ _ _ _ _ _ c.loop-j.invariant c.loop-j-test.true c.met.ensures c.in-Some.is c.if-most-at.false c.entry_row.ensures c.entry_row.auto.rows w.in_default-target.not-Directory)
    ]

pub returns-in_err-at : goal.returns-in_err-at
returns-in_err-at t c = let p = err_from_is_err_and c.from_residual.result c.from_residual.ensures.1 in rw (p.1, p.2) (walk_stopped _ _ _ _ _ _ _ _ c.loop-j.invariant c.loop-j-test.true c.met.ensures c.in-Some.is c.if-most-at.false c.entry_row.ensures c.entry_row.auto.rows c.in-Directory.is (tree_sized _ _ _ _ _ (met_is_file _ _ _ _ _ (sym c.met.ensures ∙ c.in-Some.is) c.in-Directory.is)) c.walk.ensures.0 c.walk.ensures.1 c.in_err-at.was)

pub returns : goal.returns
returns t c = walk_ends _ _ _ _ _ _ _ _ c.loop-j.invariant c.loop-j-test.false
