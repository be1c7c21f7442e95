-- Two verdicts on the same partition that meet the contract are equal, and so are the images that are left.
use Rattle.std.specs.Prelude.{◌≡◌, List, ℕ}
use Rattle.std.proofs.Common.{sym, ◌∙◌}
use Rattle.verdict.specs.declared.Verdict.{Verdict}
use Rattle.verdict.specs.Choice.{settled}

module _ (d : ℕ) (l : List ℕ) (s : ℕ) {l' l'' : List ℕ} {r r' : Verdict} (a : (r ≡ (settled d l s).verdict) × (l' ≡ (settled d l s).image))
    (b : (r' ≡ (settled d l s).verdict) × (l'' ≡ (settled d l s).image)) where
  pub one_verdict : r ≡ r'
  one_verdict = a.0 ∙ sym b.0

  pub one_image : l' ≡ l''
  one_image = a.1 ∙ sym b.1
