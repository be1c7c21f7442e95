use mathlib.Core.Path.{sym, ◌∙◌}
use native.Mathlib.Omega.{arith}
use Rattle.verify.proofs.Surveys.{pass_starts, pass_other, pass_file, pass_faulty, pass_ends, file_short}
use Rattle.verify.proofs.surveyed.Goals as goal

pub loop-f-init : goal.loop-f-init
loop-f-init c = (pass_starts _ _, omega (arith, c.args.volume.now.lies.order))

pub loop-f-preserved-then-not-candidate : goal.loop-f-preserved-then-not-candidate
loop-f-preserved-then-not-candidate c = (pass_other _ _ c.loop-f.invariant.0 (sym c.candidate.ensures ∙ c.if-not-candidate.true), omega arith)

pub returns-in_err-owned : goal.returns-in_err-owned
returns-in_err-owned c = c.from_residual.ensures ∙ pass_faulty _ _ c.loop-f.invariant.0 (sym c.candidate.ensures ∙ c.if-not-candidate.false) c.stands.ensures c.in_err-owned.was (omega arith)

pub overflow_add-owned : goal.overflow_add-owned
overflow_add-owned c =
    let p = c.loop-f.invariant.0 in
    omega (
      arith,
      c.args.volume.now.lies.few,
      p.here,
      p.short,
      file_short _ _ p (sym c.candidate.ensures ∙ c.if-not-candidate.false) c.stands.ensures _ c.in_ok-owned.was,
    )

pub loop-f-preserved : goal.loop-f-preserved
loop-f-preserved c = (pass_file _ _ c.loop-f.invariant.0 (sym c.candidate.ensures ∙ c.if-not-candidate.false) c.stands.ensures _ c.in_ok-owned.was, omega arith)

pub returns : goal.returns
returns c = pass_ends _ _ c.loop-f.invariant.0 (omega arith)
