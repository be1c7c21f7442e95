-- What a file opens to, and when two names are the same. Assumes nothing.
use Rattle.std.specs.Prelude.{◌≡◌, Bool, true, List, ℕ, ◌+◌, ◌*◌, ◌≤◌, eqb, length}
use Rattle.std.specs.List.{list_all, zip}
use Rattle.std.proofs.Common.{◌∙◌, arith, eq-eqb}
use Rattle.base.specs.Tests.{both}
use Rattle.base.specs.Laws.{both_right}
use Rattle.base.proofs.Chains.{zip_all}
use Rattle.image.specs.Image.{view}
use Rattle.volume.specs.Files.{is_file}
use Rattle.volume.specs.declared.Partition.{Partition}
use Rattle.volume.specs.Reads.{Lies}
use Rattle.inspect.specs.Parts.{Opened}
use Rattle.inspect.proofs.Laws.{wf_opened}
use Rattle.directory.specs.Directory.{upper, same_name}
use Rattle.directory.specs.Paths.{file_in}

module _ (π : Partition) (l : List ℕ) (i : Lies π l) (f : ℕ) (h : is_file π (view l) f ≡ true) where
  pub file_inside : 528 * f + 528 ≤ length l
  file_inside = let z = file_in π l f h in let w = i.within in omega arith

  pub file_opened : Opened π l f
  unfolding is_file
  file_opened = wf_opened f i (file_in π l f h) (both_right _ _ h)

pub same_zipped : (a b : List ℕ) {r : Bool} → length a ≡ length b → r ≡ list_all (λ p. eqb (upper p.0) (upper p.1)) (zip a b) → r ≡ same_name a b
unfolding same_name both
same_zipped a b h q = rw (eq-eqb _ _ h, same_name, both) (q ∙ zip_all (λ x y. eqb (upper x) (upper y)) a b h)
