use mathlib.Core.Path.{sym, ◌∙◌}
use native.Mathlib.Omega.{arith}
use borrow.Author.Tests.{eqb-true, eqb-false}
use Rattle.links.proofs.Laws.{opened, is_file_of, owned_not_file, owned_absent, owned_here, has_is, tells_equal}
use Rattle.links.proofs.leads_back.Goals as goal

pub returns-then-not-candidate : goal.returns-then-not-candidate
returns-then-not-candidate c = owned_not_file _ _ _ _ c.requires.1 _ c.block_of-f.ensures.0 (sym c.candidate.ensures ∙ c.if-not-candidate.true)

pub invariant_of-file : goal.invariant_of-file
invariant_of-file c =
    let a = c.args.clean.now in
    record { opened = opened a.volume.lies a.unmarred _ (sym c.candidate.ensures ∙ c.if-not-candidate.false) }

pub returns-then-not-has_key : goal.returns-then-not-has_key
returns-then-not-has_key c =
    let a = c.args.clean.now in
    let yes = sym c.candidate.ensures ∙ c.if-not-candidate.false in
    let has = has_is (opened a.volume.lies a.unmarred _ yes) c.len.ensures.0 _ c.has_key.ensures in
    owned_absent _ _ _ _ c.requires.1 _ c.block_of-f.ensures.0 yes _ c.key_in-k.ensures.0 (has ∙ c.if-not-has_key.true)

pub spot-requires : goal.spot-requires
spot-requires c =
    let a = c.args.clean.now in
    let yes = sym c.candidate.ensures ∙ c.if-not-candidate.false in
    has_is (opened a.volume.lies a.unmarred _ yes) c.len.ensures.0 _ c.has_key.ensures ∙ c.if-not-has_key.false

pub returns : goal.returns
returns c =
    let a = c.args.clean.now in
    let yes = sym c.candidate.ensures ∙ c.if-not-candidate.false in
    let has = has_is (opened a.volume.lies a.unmarred _ yes) c.len.ensures.0 _ c.has_key.ensures ∙ c.if-not-has_key.false in
    tells_equal _ c.spot.result c.args.b (λ h. omega (arith, eqb-true)) (λ h z. omega (arith, eqb-false))
    ∙ owned_here _ _ _ _ c.requires.1 _ c.block_of-f.ensures.0 yes _ c.key_in-k.ensures.0 (is_file_of _ _ a.unmarred _ yes) has c.spot.ensures.0
