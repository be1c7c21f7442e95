-- Directories (request 1), of the image's bytes l: names, the hash rule, what an entry is, look up of a path, the tree, and the answers
-- of the two calls. docs/DIRECTORIES.md has the layout in words.
use Rattle.volume.specs.Outcome.{Outcome}
use Rattle.std.specs.Prelude.{Bool, true, false, ◌||◌, List, [], ◌∷◌, ◌++◌, ℕ, zero, suc, ◌+◌, ◌-◌, ◌*◌, ◌/◌, ◌%◌, leb, ltb, eqb, length, get_or, take, drop, replicate, Option, Some, None, Result, Ok, Err}
use Rattle.base.specs.Tests.{pick, both, every, all}
use Rattle.base.specs.declared.Refusal.{Refusal}
use Rattle.base.specs.declared.Refusal.TheVariants.{BadBuffer, NoCandidate, TooDeep}
use Rattle.drive.specs.Address.{lda_block, is_lda}
use Rattle.image.specs.View.{pair}
use Rattle.image.specs.Image.{view}
use Rattle.volume.specs.Words.{data_offset, file_type_at, root_at}
use Rattle.volume.specs.Files.{partition_of, is_file, len, name}
use Rattle.volume.specs.declared.Partition.{Partition}
use Rattle.volume.specs.Answers.{lowest, partition, in_partition}
use Rattle.directory.specs.declared.Target.{Target}
use Rattle.directory.specs.declared.Target.TheVariants.{File, Directory, Dangling}
use Rattle.directory.specs.declared.Stop.{Stop}
use Rattle.directory.specs.declared.Stop.TheVariants.{Full, Deep}

-- ---- names

-- a letter as a capital
unfoldable pub upper : ℕ → ℕ
upper c = pick (both (leb 97 c) (leb c 122)) (c - 32) c

-- two names are the same but for case
unfoldable pub same_name : List ℕ → List ℕ → Bool
same_name a b = both (eqb (length a) (length b)) (all (length a) (λ i. eqb (upper (get_or a i 0)) (upper (get_or b i 0))))

-- ---- selection

-- of a name and a block of a directory: whether the name's entry may stand there. A rule is one; everything below is over any
abbrev pub Selection : Type 0
Selection = List ℕ → ℕ → Bool

-- w0 n + w1 c1 + .. + wi ci, and the hash of a name
unfoldable pub weigh : List ℕ → List ℕ → ℕ → ℕ
weigh rule x zero = get_or rule 0 0 * length x
weigh rule x (suc i) = weigh rule x i + get_or rule (suc i) 0 * upper (get_or x i 0)

unfoldable pub hash : List ℕ → List ℕ → ℕ
hash rule x = weigh rule x (length x) % 31

-- a rule: 26 weights, or no bytes
unfoldable pub is_rule : List ℕ → Bool
is_rule rule = eqb (length rule) 0 || eqb (length rule) 26

-- block r is the one that the hash selects, or a multiple of 31 further on; by no bytes every block is selected
unfoldable pub selected : List ℕ → Selection
selected rule x r = eqb (length rule) 0 || eqb (r % 31) (hash rule x)

-- ---- entries

-- where entry i of block b starts in the image; the word of block b with the address of its target
abbrev pub entry_at : ℕ → ℕ → ℕ
entry_at b i = data_offset b + 32 * i

abbrev pub target_at : ℕ → ℕ
target_at i = 9 + 16 * i

-- the name of the entry that starts at a byte: its length, and the letters behind
abbrev pub name_length : List ℕ → ℕ → ℕ
name_length l at = get_or l (at + 6) 0

abbrev pub name_at : List ℕ → ℕ → List ℕ
name_at l at = take (name_length l at) (drop (at + 7) l)

-- an entry of block r of its directory is taken: valid, a name of 1 to 25 letters, and in a block that the name selects
unfoldable pub taken_at : List ℕ → Selection → ℕ → ℕ → Bool
taken_at l sel r at =
    every (eqb (get_or l at 0 % 2) 1 ∷ leb 1 (name_length l at) ∷ leb (name_length l at) 25 ∷ sel (name_at l at) r ∷ [])

-- f is a directory by its file type
unfoldable pub is_directory : List ℕ → ℕ → Bool
is_directory l f = eqb (view l f file_type_at) 3

module _ (π : Partition) (l : List ℕ) where
  -- the file that x decodes to as an LDA
  unfoldable pub file_at : ℕ → Option ℕ
  file_at x = let t = lda_block π.drive x in pick (both (is_lda π.drive x t) (is_file π (view l) t)) (Some t) None

  -- the root directory, which is not asked for its type
  abbrev pub root_of : Option ℕ
  root_of = file_at (pair (view l) π.s root_at)

  -- the target of entry i of block b
  abbrev pub target_of : ℕ → ℕ → Option ℕ
  target_of b i = file_at (pair (view l) b (target_at i))

  -- where entry j of directory f stands, the entries counted through its blocks
  abbrev pub place_of : ℕ → ℕ → ℕ
  place_of f j = entry_at (name π (view l) f (j / 16)) (j % 16)

-- what an entry with this target is
abbrev pub met_target : List ℕ → Option ℕ → Target
met_target l (Some t) = pick (is_directory l t) (Directory t) (File t)
met_target l None = Dangling

module _ (π : Partition) (l : List ℕ) (sel : Selection) where
  -- what entry j of directory f is, if it is taken
  unfoldable pub met_at : ℕ → ℕ → Option Target
  met_at f j =
      let b = name π (view l) f (j / 16) in
      pick (taken_at l sel (j / 16) (entry_at b (j % 16))) (Some (met_target l (target_of π l b (j % 16)))) None

-- ---- look up

-- where the part of a path ends that starts at p, in the k bytes from there on: before the next '>'
unfoldable pub part_end : List ℕ → ℕ → ℕ → ℕ
part_end path p zero = p
part_end path p (suc k) = elim (eqb (get_or path p 0) 62) [ true ↦ p | false ↦ part_end path (p + 1) k ]

-- what a path leads to: its target, if there is one; or down into a directory of the tenth level
abbrev pub Looked : Type 0
Looked = Result (Option Target) ℕ

-- the rest of a path, which k looks up in a directory, in what its first part came to: anything else has no entries
abbrev pub into : (ℕ → Looked) → Option Target → Looked
into k (Some (Directory t)) = k t
into k (Some (File t)) = Ok None
into k (Some Dangling) = Ok None
into k None = Ok None

-- what the entry found in directory f is
abbrev pub entered_at : Partition → List ℕ → ℕ → Option ℕ → Option Target
entered_at π l f (Some j) = Some (met_target l (target_of π l (name π (view l) f (j / 16)) (j % 16)))
entered_at π l f None = None

module _ (π : Partition) (l : List ℕ) (sel : Selection) where
  -- entry j of f is taken and has the name
  unfoldable pub hit : List ℕ → ℕ → ℕ → Bool
  hit part f j = both (taken_at l sel (j / 16) (place_of π l f j)) (same_name (name_at l (place_of π l f j)) part)

  -- the first entry of f with the name
  unfoldable pub find : List ℕ → ℕ → Option ℕ
  find part f = lowest (hit part f) 0 (16 * len (view l) f)

  unfoldable pub entered : List ℕ → ℕ → Option Target
  entered part f = entered_at π l f (find part f)

  -- the path from p on, in directory f with d levels left, this one counted
  unfoldable pub look : ℕ → List ℕ → ℕ → ℕ → Looked
  look zero path p f = Err f
  look (suc d) path p f =
      let q = part_end path p (length path - p) in
      let x = entered (take (q - p) (drop p path)) f in
      pick (ltb q (length path)) (into (look d path (q + 1)) x) (Ok x)

  -- a path from the root down, which is the first of nine levels; the empty path is the root
  unfoldable pub look_from : ℕ → List ℕ → Looked
  look_from root path = pick (eqb (length path) 0) (Ok (Some (Directory root))) (look 9 path 0 root)

-- ---- the tree

-- what a walk of the tree meets: an entry's row, or a directory of the tenth level
pub data Item : Type 0 where
  row : List ℕ → Item
  tenth : ℕ → Item

-- the LBN of a target, 0 if it dangles, and the number in a row for what it is
abbrev pub block_of : Target → ℕ
block_of (File t) = t
block_of (Directory t) = t
block_of Dangling = 0

abbrev pub what_of : Target → ℕ
what_of (File t) = 0
what_of (Directory t) = 1
what_of Dangling = 2

-- a row: the target's LBN, level, what, length of the name, the name, zeros
unfoldable pub row_of : ℕ → ℕ → ℕ → List ℕ → List ℕ
row_of t level what x = (t % 256 ∷ t / 256 % 256 ∷ t / 65536 % 256 ∷ t / 16777216 % 256 ∷ level ∷ what ∷ length x ∷ []) ++ (x ++ replicate (25 - length x) 0)

-- what lies in a target: in a directory its entries
abbrev pub inside_of : (ℕ → List Item) → Target → List Item
inside_of below (File t) = []
inside_of below (Directory t) = below t
inside_of below Dangling = []

-- an entry with this target, which stands at `at`: its row, and behind that of a directory what lies in it
abbrev pub items_of : List ℕ → (ℕ → List Item) → ℕ → ℕ → Option Target → List Item
items_of l below level at None = []
items_of l below level at (Some target) = row (row_of (block_of target) level (what_of target) (name_at l at)) ∷ inside_of below target

module _ (π : Partition) (l : List ℕ) (sel : Selection) where
  -- the c entries of f from j on
  unfoldable pub entries : (ℕ → List Item) → ℕ → ℕ → ℕ → ℕ → List Item
  entries below level f j zero = []
  entries below level f j (suc c) = items_of l below level (place_of π l f j) (met_at π l sel f j) ++ entries below level f (j + 1) c

  -- directory f with d levels left, this one counted: of nine, the root's entries have level 1
  unfoldable pub tree : ℕ → ℕ → List Item
  tree zero f = tenth f ∷ []
  tree (suc d) f = entries (tree d) (9 - d) f 0 (16 * len (view l) f)

-- how many rows a walk fills, or why it ended early
abbrev pub Walk : Type 0
Walk = Result ℕ Stop

-- what a walk comes to that has filled n of m rows: it goes as far as there are rows
unfoldable pub walked : ℕ → List Item → ℕ → Walk
walked m [] n = Ok n
walked m (row r ∷ is) n = elim (ltb n m) [ true ↦ walked m is (n + 1) | false ↦ Err (Full n) ]
walked m (tenth f ∷ is) n = Err (Deep f)

-- the bytes of the rows of such a walk, with room for m
unfoldable pub fitting : ℕ → List Item → List ℕ
fitting zero is = []
fitting (suc m) [] = []
fitting (suc m) (row r ∷ is) = r ++ fitting m is
fitting (suc m) (tenth f ∷ is) = []

-- ---- the call look up: 1, 2, 3, 6, 11

abbrev pub looked_as : Looked → Outcome
looked_as (Ok (Some (File t))) = Ok (Some (t, 0, 0))
looked_as (Ok (Some (Directory t))) = Ok (Some (t, 0, 0))
looked_as (Ok (Some Dangling)) = Ok (Some (0, 1, 0))
looked_as (Ok None) = Ok None
looked_as (Err f) = Err (TooDeep f)

abbrev pub look_root : Partition → List ℕ → List ℕ → List ℕ → Option ℕ → Outcome
look_root π l rule path (Some root) = looked_as (look_from π l (selected rule) root path)
look_root π l rule path None = Err NoCandidate

unfoldable pub look_in : Partition → List ℕ → List ℕ → List ℕ → Outcome
look_in π l rule path = pick (is_rule rule) (look_root π l rule path (root_of π l)) (Err BadBuffer)

unfoldable pub look_up : ℕ → List ℕ → ℕ → List ℕ → List ℕ → Outcome
look_up d l s rule path = in_partition Err (partition d l s) (λ e. look_in (partition_of d s e) l rule path)

-- ---- the call tree: 1, 2, 3, 6, 11; what it comes to, and the bytes that it lays over the caller's rows, none under a refusal

pub record Treed : Type 0 where
  pub outcome : Outcome
  pub rows : List ℕ

abbrev pub refused_tree : Refusal → Treed
refused_tree y = record { outcome = Err y; rows = [] }

-- how many rows n bytes are; an answer counts no more than 32 bits hold
unfoldable pub most_rows : ℕ → ℕ
most_rows n = pick (ltb (n / 32) 4294967295) (n / 32) 4294967295

abbrev pub walked_as : Walk → List ℕ → Treed
walked_as (Ok n) x = record { outcome = Ok (Some (n, 0, 0)); rows = x }
walked_as (Err (Full n)) x = record { outcome = Ok (Some (n, 1, 0)); rows = x }
walked_as (Err (Deep f)) x = refused_tree (TooDeep f)

abbrev pub tree_root : Partition → List ℕ → List ℕ → ℕ → Option ℕ → Treed
tree_root π l rule n (Some root) = let is = tree π l (selected rule) 9 root in walked_as (walked (most_rows n) is 0) (fitting (most_rows n) is)
tree_root π l rule n None = refused_tree NoCandidate

unfoldable pub tree_in : Partition → List ℕ → List ℕ → ℕ → Treed
tree_in π l rule n = pick (both (is_rule rule) (eqb (n % 32) 0)) (tree_root π l rule n (root_of π l)) (refused_tree BadBuffer)

unfoldable pub treed : ℕ → List ℕ → ℕ → List ℕ → ℕ → Treed
treed d l s rule n = in_partition refused_tree (partition d l s) (λ e. tree_in (partition_of d s e) l rule n)
