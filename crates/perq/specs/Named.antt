-- Every number that look up and the tree answer fits 32 bits: a file is a block of its partition, and rows are counted up to 2^32 - 1.
use Rattle.std.specs.Prelude.{◌≡◌, refl, Bool, true, false, List, ℕ, ◌/◌, ◌%◌, ◌<◌, ltb, eqb, Option, Some, None, Ok, Err}
use Rattle.std.proofs.Common.{arith, ltb-true}
use Rattle.base.specs.Tests.{pick, both}
use Rattle.base.specs.declared.Refusal.TheVariants.{BadBuffer}
use Rattle.volume.specs.Files.{partition_of}
use Rattle.volume.specs.declared.Partition.{Partition}
use Rattle.volume.proofs.Readings.{in_part, lies}
use Rattle.directory.specs.Directory.{selected, is_rule, root_of, Looked, look_from, looked_as, look_root, look_in, look_up, tree, Walk, walked, fitting, most_rows, walked_as, refused_tree, tree_root, tree_in, treed}
use Rattle.directory.specs.Entries.{file_at_is}
use Rattle.directory.specs.Paths.{LookedIn, look_from_in}
use Rattle.directory.specs.declared.Target.TheVariants.{File, Directory, Dangling}
use Rattle.directory.specs.declared.Stop.TheVariants.{Full, Deep}
use Rattle.tree.specs.Items.{WalkFits, walked_fits, tree_sized}
use Rattle.perq.specs.Fits.{OutcomeFits, part_fits, pick_fits}

looked_fits : (e : ℕ) → e < 69552 → (x : Looked) → LookedIn e x → OutcomeFits (looked_as x)
looked_fits e few (Ok (Some (File t))) h = (omega arith, omega arith, omega arith)
looked_fits e few (Ok (Some (Directory t))) h = (omega arith, omega arith, omega arith)
looked_fits e few (Ok (Some Dangling)) h = (omega arith, omega arith, omega arith)
looked_fits e few (Ok None) h = tt
looked_fits e few (Err f) h = omega arith

look_fits : (π : Partition) (l rule path : List ℕ) → π.e < 69552 → OutcomeFits (look_in π l rule path)
unfolding look_in
look_fits π l rule path few = pick_fits (is_rule rule) _ _ (λ _. go (root_of π l) refl) (omega arith)
  where
    go : (x : Option ℕ) → root_of π l ≡ x → OutcomeFits (look_root π l rule path x)
    go (Some root) q = looked_fits π.e few (look_from π l (selected rule) root path) (look_from_in π l (selected rule) path root (file_at_is π l _ root q))
    go None q = omega arith

pub look_up_fits : (d : ℕ) (l : List ℕ) (s : ℕ) (rule path : List ℕ) → OutcomeFits (look_up d l s rule path)
unfolding look_up
look_up_fits d l s rule path = part_fits d l s _ (λ e g. look_fits (partition_of d s e) l rule path (lies d l s e g).few)

most_fits : (n : ℕ) → most_rows n < 4294967296
unfolding most_rows
most_fits n = go (ltb (n / 32) 4294967295) refl
  where
    go : (u : Bool) → ltb (n / 32) 4294967295 ≡ u → pick u (n / 32) 4294967295 < 4294967296
    go true q = let z : n / 32 < 4294967295 = ltb-true _ _ q in omega arith
    go false q = omega arith

walk_fits : (m e : ℕ) → m < 4294967296 → e < 69552 → (w : Walk) (x : List ℕ) → WalkFits m e w → OutcomeFits (walked_as w x).outcome
walk_fits m e k few (Ok n) x h = (omega arith, omega arith, omega arith)
walk_fits m e k few (Err (Full n)) x h = (omega arith, omega arith, omega arith)
walk_fits m e k few (Err (Deep f)) x h = omega arith

tree_fits : (π : Partition) (l rule : List ℕ) (n : ℕ) → π.e < 69552 → OutcomeFits (tree_in π l rule n).outcome
unfolding tree_in
tree_fits π l rule n few = ruled (both (is_rule rule) (eqb (n % 32) 0))
  where
    go : (x : Option ℕ) → root_of π l ≡ x → OutcomeFits (tree_root π l rule n x).outcome
    go (Some root) q =
        let is = tree π l (selected rule) 9 root in
        walk_fits (most_rows n) π.e (most_fits n) few (walked (most_rows n) is 0) (fitting (most_rows n) is)
        (walked_fits (most_rows n) π.e is 0 (omega arith) (tree_sized π l (selected rule) 9 root (file_at_is π l _ root q)))
    go None q = omega arith

    ruled : (u : Bool) → OutcomeFits (pick u (tree_root π l rule n (root_of π l)) (refused_tree BadBuffer)).outcome
    ruled true = go (root_of π l) refl
    ruled false = omega arith

pub treed_fits : (d : ℕ) (l : List ℕ) (s : ℕ) (rule : List ℕ) (n : ℕ) → OutcomeFits (treed d l s rule n).outcome
unfolding treed
treed_fits d l s rule n = in_part (λ x. OutcomeFits x.outcome) refused_tree (omega arith) (omega arith) d l s _ (λ e g. tree_fits (partition_of d s e) l rule n (lies d l s e g).few)
