use Rattle.std.specs.Prelude.{◌≡◌, refl, Bool, true, false, ℕ, ◌-◌, max, ltb}
use Rattle.std.proofs.Common.{◌∙◌, arith, rules, tests, ltb-true}
use Rattle.std.proofs.lemmas.Bool.{ltb-false}
use Rattle.base.specs.Tests.{pick}
use Rattle.base.proofs.Chains.{find_from}
use Rattle.image.specs.Image.{view}
use Rattle.volume.specs.Files.{is_file}
use Rattle.volume.specs.Answers.{file_above}
use Rattle.volume.proofs.Steps.{lowest_nothing}
use Rattle.inspect.proofs.Ways.{find_lowest}
use Rattle.listing.proofs.file_above.Goals as goal

larger : (a b : ℕ) → max a b ≡ pick (ltb a b) b a
larger a b = go (ltb a b) refl
  where
    go : (t : Bool) → ltb a b ≡ t → max a b ≡ pick t b a
    go true q = omega (arith, ltb-true a b q)
    go false q = omega (arith, ltb-false a b q)

pub returns-then-volume-a : goal.returns-then-volume-a
unfolding file_above
returns-then-volume-a c =
    let π = c.args.volume.now.p in
    let q : c.max-a.result ≡ pick (ltb c.args.b π.s) π.s c.args.b = c.max-a.ensures ∙ larger _ _ in
    rw (← q) (lowest_nothing _ _ _ (omega arith))

pub returns : goal.returns
unfolding file_above
returns c =
    let π = c.args.volume.now.p in
    let q : c.max-a.result ≡ pick (ltb c.args.b π.s) π.s c.args.b = c.max-a.ensures ∙ larger _ _ in
    rw (← q)
    (find_from (is_file π (view c.args.volume.now.img.now)) _ _ _ _ c.find.ensures.ran (λ x b q k. search (rules, tests)) {n = π.e - c.max-a.result} (omega arith) ∙ find_lowest _ _ _)
