use Rattle.std.proofs.Common.{eqb, rules, tests}
use Rattle.std.proofs.lemmas.Iterator.{YieldsList-from_slice, YieldsList-from_zip}
use Rattle.std.proofs.lemmas.Iterator.Search.{all_from_yields_List}
use Rattle.directory.specs.Directory.{upper}
use Rattle.directory.specs.Entries.{same_short}
use Rattle.directory.proofs.Laws.{same_zipped}
use Rattle.directory.proofs.entry.same.Goals as goal

pub returns-then-a-b : goal.returns-then-a-b
returns-then-a-b c =
    let a = c.args.a.now in let b = c.args.b.now in
    same_zipped a b (search rules) (all_from_yields_List (λ p. eqb (upper p.0) (upper p.1)) c.all.new.self _ _ c.all.ensures.ran
    (YieldsList-from_zip (YieldsList-from_slice a cc) (YieldsList-from_slice b cc)) (λ x b q k. search (rules, tests)))

pub returns-else-a-b : goal.returns-else-a-b
returns-else-a-b c = same_short _ _ (search rules)
