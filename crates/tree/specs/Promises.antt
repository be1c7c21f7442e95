-- What the tree's definition promises of the caller's rows: none is touched under a refusal, and an answer of n rows laid 32 n bytes.
use Rattle.volume.specs.Outcome.{Outcome}
use Rattle.std.specs.Prelude.{◌≡◌, refl, Bool, true, false, List, [], ℕ, ◌+◌, ◌-◌, ◌*◌, ◌%◌, eqb, length, Option, Some, None, Result, Ok, Err}
use Rattle.std.proofs.Common.{subst, arith}
use Rattle.base.specs.Tests.{pick, both}
use Rattle.base.specs.declared.Refusal.{Refusal}
use Rattle.base.specs.declared.Refusal.TheVariants.{BadBuffer}
use Rattle.volume.specs.Files.{partition_of}
use Rattle.volume.specs.declared.Partition.{Partition}
use Rattle.volume.specs.Answers.{partition, in_partition}
use Rattle.directory.specs.Directory.{selected, is_rule, root_of, Item, tree, Walk, walked, fitting, Treed, refused_tree, most_rows, walked_as, tree_root, tree_in, treed}
use Rattle.image.specs.Stores.{lay}
use Rattle.directory.specs.Entries.{file_at_is}
use Rattle.directory.specs.declared.Stop.TheVariants.{Full, Deep}
use Rattle.tree.specs.Items.{lay_none, Counts, counts, tree_sized}

-- what an answer says of the bytes laid
abbrev Laid : Outcome → List ℕ → Type 0
Laid (Ok (Some v)) rows = length rows ≡ 32 * v.0
Laid (Ok None) rows = rows ≡ []
Laid (Err y) rows = rows ≡ []

abbrev TreeLaid : Treed → Type 0
TreeLaid t = Laid t.outcome t.rows

walk_laid : (w : Walk) (x : List ℕ) → ((n : ℕ) → w ≡ Ok n → length x ≡ 32 * n) → ((n : ℕ) → w ≡ Err (Full n) → length x ≡ 32 * n) → TreeLaid (walked_as w x)
walk_laid (Ok n) x g s = g n refl
walk_laid (Err (Full n)) x g s = s n refl
walk_laid (Err (Deep f)) x g s = refl

from_start : (m i : ℕ) (is : List Item) → 32 * 0 + length (fitting (m - 0) is) ≡ 32 * i → length (fitting m is) ≡ 32 * i
from_start m i is h = let z : m - 0 ≡ m = omega arith in let y = rw z at h in omega arith

root_laid : (π : Partition) (l rule : List ℕ) (n : ℕ) → TreeLaid (tree_root π l rule n (root_of π l))
root_laid π l rule n = go (root_of π l) refl
  where
    go : (x : Option ℕ) → root_of π l ≡ x → TreeLaid (tree_root π l rule n x)
    go None q = refl
    go (Some root) q =
        let is = tree π l (selected rule) 9 root in
        let m = most_rows n in
        let c : Counts m 0 is (walked m is 0) = counts m π.e is 0 (tree_sized π l (selected rule) 9 root (file_at_is π l _ root q)) in
        walk_laid (walked m is 0) (fitting m is) (λ i z. from_start m i is (subst (Counts m 0 is) z c)) (λ i z. from_start m i is (subst (Counts m 0 is) z c))

treed_laid : (d : ℕ) (l : List ℕ) (s : ℕ) (rule : List ℕ) (n : ℕ) → TreeLaid (treed d l s rule n)
unfolding treed tree_in
treed_laid d l s rule n = go (partition d l s)
  where
    ruled : (π : Partition) (u : Bool) → TreeLaid (pick u (tree_root π l rule n (root_of π l)) (refused_tree BadBuffer))
    ruled π true = root_laid π l rule n
    ruled π false = refl

    go : (x : Result ℕ Refusal) → TreeLaid (in_partition refused_tree x (λ e. tree_in (partition_of d s e) l rule n))
    go (Ok e) = ruled (partition_of d s e) (both (is_rule rule) (eqb (n % 32) 0))
    go (Err y) = refl

module _ (d : ℕ) (l : List ℕ) (s : ℕ) (rule b : List ℕ) where
  pub refused_leaves : (y : Refusal) → (treed d l s rule (length b)).outcome ≡ Err y → lay b 0 (treed d l s rule (length b)).rows ≡ b
  refused_leaves y q =
      let z : (treed d l s rule (length b)).rows ≡ [] = subst (λ (o : Outcome). Laid o (treed d l s rule (length b)).rows) q (treed_laid d l s rule (length b)) in
      rw z (lay_none b 0)

  pub done_lays : (n x c : ℕ) → (treed d l s rule (length b)).outcome ≡ Ok (Some (n, x, c)) → length (treed d l s rule (length b)).rows ≡ 32 * n
  done_lays n x c q = subst (λ (o : Outcome). Laid o (treed d l s rule (length b)).rows) q (treed_laid d l s rule (length b))
