-- The items of a tree: how long its rows are, how far a walk of them counts, one list of items after another; bytes laid over a buffer.
use Rattle.std.specs.Prelude.{◌≡◌, refl, Bool, true, false, List, [], ◌∷◌, ◌++◌, ltb, length, take, drop, Option, Some, None, Ok, Err}
use Rattle.std.proofs.Common.{sym, ap, ◌∙◌, subst, append_assoc, le_trans, arith, length-append, length-take, take-append-drop, take_at, length-take-le, drop-drop, lt-ltb, le-ltb, ltb-true, ltb-false}
use Prim.Native.Nat.{ℕ, zero, suc, ◌+◌, ◌-◌, ◌*◌, ◌≤◌, ◌<◌}
use Rattle.std.proofs.Math.Nat.{min-le_left}
use Rattle.std.proofs.lemmas.List.{length-replicate}
use Rattle.std.proofs.Math.Seq.{drop-append-add}
use Rattle.image.specs.Image.{view}
use Rattle.volume.specs.Files.{is_file, len}
use Rattle.volume.specs.declared.Partition.{Partition}
use Rattle.directory.specs.Directory.{Selection, name_length, name_at, place_of, met_at, Item, row, tenth, row_of, inside_of, items_of, entries, tree, Walk, walked, fitting}
use Rattle.image.specs.Stores.{lay}
use Rattle.directory.specs.Entries.{met_short, met_is_file}
use Rattle.directory.specs.Paths.{file_in}
use Rattle.directory.specs.declared.Target.{Target}
use Rattle.directory.specs.declared.Target.TheVariants.{File, Directory, Dangling}
use Rattle.directory.specs.declared.Stop.TheVariants.{Full, Deep}

-- ---- laying bytes over a buffer

pub lay_none : (b : List ℕ) (at : ℕ) → lay b at [] ≡ b
unfolding lay
lay_none b at = let z : at + 0 ≡ at = omega arith in rw (lay, z) (take-append-drop at b)

-- laid one after the other is laid as one
pub lay_lay : (b x y : List ℕ) (at : ℕ) → at + length x ≤ length b → lay (lay b at x) (at + length x) y ≡ lay b at (x ++ y)
unfolding lay
lay_lay b x y at h = rw (lay, joined, take_at (take at b ++ x) _ (at + length x) long, dropped) ends
  where
    joined : take at b ++ (x ++ drop (at + length x) b) ≡ (take at b ++ x) ++ drop (at + length x) b
    joined = sym (append_assoc (take at b) x _)

    long : length (take at b ++ x) ≡ at + length x
    long = let z : length (take at b) ≡ at = length-take-le at b (omega arith) in rw (length-append, z)

    dropped : drop (at + length x + length y) ((take at b ++ x) ++ drop (at + length x) b) ≡ drop (at + length x + length y) b
    dropped = (rw long at (drop-append-add (take at b ++ x) (drop (at + length x) b) (length y))) ∙ drop-drop (length y) (at + length x) b

    ends : (take at b ++ x) ++ (y ++ drop (at + length x + length y) b) ≡ take at b ++ ((x ++ y) ++ drop (at + length (x ++ y)) b)
    ends =
        let z : at + length x + length y ≡ at + length (x ++ y) = rw length-append (omega arith) in
        append_assoc (take at b) x _ ∙ ap (λ (r : List ℕ). take at b ++ r) (sym (append_assoc x y _)) ∙ ap (λ (n : ℕ). take at b ++ ((x ++ y) ++ drop n b)) z

-- ---- items: a row has 32 bytes, and a directory of the tenth level is a block of the partition

abbrev pub Sized : ℕ → List Item → Type 0
Sized e [] = Unit {0}
Sized e (row r ∷ is) = (length r ≡ 32) × Sized e is
Sized e (tenth f ∷ is) = (f ≤ e) × Sized e is

sized_append : (e : ℕ) (is js : List Item) → Sized e is → Sized e js → Sized e (is ++ js)
sized_append e [] js h k = k
sized_append e (row r ∷ is) js h k = (h.0, sized_append e is js h.1 k)
sized_append e (tenth f ∷ is) js h k = (h.0, sized_append e is js h.1 k)

pub row_long : (t level what : ℕ) (x : List ℕ) → length x ≤ 25 → length (row_of t level what x) ≡ 32
unfolding row_of
row_long t level what x h = rw (row_of, length-append, length-append, length-replicate) (omega arith)

pub name_short : (l : List ℕ) (at : ℕ) → name_length l at ≤ 25 → length (name_at l at) ≤ 25
name_short l at h = rw length-take (le_trans (min-le_left (name_length l at) (length (drop (at + 7) l))) h)

module _ (π : Partition) (l : List ℕ) (sel : Selection) where
  items_sized : (below : ℕ → List Item) (level f j : ℕ) → ((t : ℕ) → is_file π (view l) t ≡ true → Sized π.e (below t)) → Sized π.e (items_of l below level (place_of π l f j) (met_at π l sel f j))
  items_sized below level f j h = go (met_at π l sel f j) refl
    where
      go : (m : Option Target) → met_at π l sel f j ≡ m → Sized π.e (items_of l below level (place_of π l f j) m)
      go None q = tt
      go (Some x) q = (row_long _ level _ _ (name_short l _ (met_short π l sel f j q)), down x q)
        where
          down : (x : Target) → met_at π l sel f j ≡ Some x → Sized π.e (inside_of below x)
          down (File t) q = tt
          down (Directory t) q = h t (met_is_file π l sel f j q refl)
          down Dangling q = tt

  entries_sized : (below : ℕ → List Item) (level f j c : ℕ) → ((t : ℕ) → is_file π (view l) t ≡ true → Sized π.e (below t)) → Sized π.e (entries π l sel below level f j c)
  unfolding entries
  entries_sized below level f j zero h = tt
  entries_sized below level f j (suc c) h = sized_append π.e (items_of l below level (place_of π l f j) (met_at π l sel f j)) (entries π l sel below level f (j + 1) c) (items_sized below level f j h) (entries_sized below level f (j + 1) c h)

  pub tree_sized : (d f : ℕ) → is_file π (view l) f ≡ true → Sized π.e (tree π l sel d f)
  unfolding tree
  tree_sized zero f h = (file_in π l f h, tt)
  tree_sized (suc d) f h = entries_sized (tree π l sel d) (9 - d) f 0 (16 * len (view l) f) (λ t k. tree_sized d t k)

-- ---- one list of items after another

pub fitting_none : (m : ℕ) → fitting m [] ≡ []
unfolding fitting
fitting_none zero = refl
fitting_none (suc m) = refl

pub fitting_tenth : (m f : ℕ) (is : List Item) → fitting m (tenth f ∷ is) ≡ []
unfolding fitting
fitting_tenth zero f is = refl
fitting_tenth (suc m) f is = refl

pub fitting_row : (m n : ℕ) (r : List ℕ) (is : List Item) → n < m → fitting (m - n) (row r ∷ is) ≡ r ++ fitting (m - (n + 1)) is
unfolding fitting
fitting_row m n r is h = let z : m - n ≡ suc (m - (n + 1)) = omega arith in rw (z, fitting)

pub walked_row : (m n : ℕ) (r : List ℕ) (is : List Item) → n < m → walked m (row r ∷ is) n ≡ walked m is (n + 1)
unfolding walked
walked_row m n r is h = rw (walked, lt-ltb n m h)

pub walked_full : (m n : ℕ) (r : List ℕ) (is : List Item) → m ≤ n → walked m (row r ∷ is) n ≡ Err (Full n)
unfolding walked
walked_full m n r is h = rw (walked, le-ltb n m h)

pub fitting_full : (m n : ℕ) (is : List Item) → m ≤ n → fitting (m - n) is ≡ []
unfolding fitting
fitting_full m n is h = let z : m - n ≡ zero = omega arith in rw (z, fitting)

-- a walk that filled rows up to i has laid as many bytes
abbrev pub Counts : ℕ → ℕ → List Item → Walk → Type 0
Counts m n is (Ok i) = 32 * n + length (fitting (m - n) is) ≡ 32 * i
Counts m n is (Err (Full i)) = 32 * n + length (fitting (m - n) is) ≡ 32 * i
Counts m n is (Err (Deep f)) = Unit {0}

counts_row : (m n : ℕ) (r : List ℕ) (is : List Item) (w : Walk) → n < m → length r ≡ 32 → Counts m (n + 1) is w → Counts m n (row r ∷ is) w
counts_row m n r is (Ok i) h q s = rw (fitting_row m n r is h, length-append) (omega arith)
counts_row m n r is (Err (Full i)) h q s = rw (fitting_row m n r is h, length-append) (omega arith)
counts_row m n r is (Err (Deep f)) h q s = tt

pub counts : (m e : ℕ) (is : List Item) (n : ℕ) → Sized e is → Counts m n is (walked m is n)
unfolding walked
counts m e [] n s = rw (fitting_none (m - n)) (omega arith)
counts m e (tenth f ∷ is) n s = tt
counts m e (row r ∷ is) n s = go (ltb n m) refl (counts m e is (n + 1) s.1)
  where
    go : (u : Bool) → ltb n m ≡ u → Counts m (n + 1) is (walked m is (n + 1)) → Counts m n (row r ∷ is) (walked m (row r ∷ is) n)
    go true q k = let l = ltb-true n m q in subst (Counts m n (row r ∷ is)) (sym (walked_row m n r is l)) (counts_row m n r is (walked m is (n + 1)) l s.0 k)
    go false q k = let l = ltb-false n m q in subst (Counts m n (row r ∷ is)) (sym (walked_full m n r is l)) (rw (fitting_full m n (row r ∷ is) l) (omega arith))

-- a walk of xs and then ys: xs went on to i and ys follow, or it ended in xs
abbrev pub Then : ℕ → List Item → List Item → ℕ → Walk → Type 0
Then m xs ys n (Ok i) = (walked m (xs ++ ys) n ≡ walked m ys i) × (fitting (m - n) (xs ++ ys) ≡ fitting (m - n) xs ++ fitting (m - i) ys)
Then m xs ys n (Err y) = (walked m (xs ++ ys) n ≡ Err y) × (fitting (m - n) (xs ++ ys) ≡ fitting (m - n) xs)

module _ (m : ℕ) (r : List ℕ) (xs ys : List Item) (n : ℕ) (h : n < m) where
  one : {w : Walk} → walked m (xs ++ ys) (n + 1) ≡ w → walked m (row r ∷ (xs ++ ys)) n ≡ w
  one q = walked_row m n r (xs ++ ys) h ∙ q

  rows : fitting (m - (n + 1)) (xs ++ ys) ≡ fitting (m - (n + 1)) xs → fitting (m - n) (row r ∷ (xs ++ ys)) ≡ fitting (m - n) (row r ∷ xs)
  rows q = fitting_row m n r (xs ++ ys) h ∙ ap (λ (x : List ℕ). r ++ x) q ∙ sym (fitting_row m n r xs h)

  then_row : (w : Walk) → Then m xs ys (n + 1) w → Then m (row r ∷ xs) ys n w
  then_row (Ok i) s =
      (one s.0, fitting_row m n r (xs ++ ys) h ∙ ap (λ (x : List ℕ). r ++ x) s.1 ∙ sym (append_assoc r _ _) ∙ ap (λ (x : List ℕ). x ++ fitting (m - i) ys) (sym (fitting_row m n r xs h)))
  then_row (Err y) s = (one s.0, rows s.1)

pub walked_then : (m : ℕ) (xs ys : List Item) (n : ℕ) → Then m xs ys n (walked m xs n)
unfolding walked
walked_then m [] ys n = (refl, rw (fitting_none (m - n)))
walked_then m (tenth f ∷ xs) ys n = (refl, fitting_tenth (m - n) f (xs ++ ys) ∙ sym (fitting_tenth (m - n) f xs))
walked_then m (row r ∷ xs) ys n = go (ltb n m) refl (walked_then m xs ys (n + 1))
  where
    go : (u : Bool) → ltb n m ≡ u → Then m xs ys (n + 1) (walked m xs (n + 1)) → Then m (row r ∷ xs) ys n (walked m (row r ∷ xs) n)
    go true q k = let l = ltb-true n m q in subst (Then m (row r ∷ xs) ys n) (sym (walked_row m n r xs l)) (then_row m r xs ys n l (walked m xs (n + 1)) k)
    go false q k =
        let l = ltb-false n m q in
        subst (Then m (row r ∷ xs) ys n) (sym (walked_full m n r xs l)) (walked_full m n r (xs ++ ys) l, fitting_full m n (row r ∷ xs ++ ys) l ∙ sym (fitting_full m n (row r ∷ xs) l))

-- a walk counts no further than there are rows, and what it names lies in the partition
abbrev pub WalkFits : ℕ → ℕ → Walk → Type 0
WalkFits m e (Ok n) = n ≤ m
WalkFits m e (Err (Full n)) = n ≤ m
WalkFits m e (Err (Deep f)) = f ≤ e

pub walked_fits : (m e : ℕ) (is : List Item) (n : ℕ) → n ≤ m → Sized e is → WalkFits m e (walked m is n)
unfolding walked
walked_fits m e [] n h s = h
walked_fits m e (tenth f ∷ is) n h s = s.0
walked_fits m e (row r ∷ is) n h s = go (ltb n m) refl (λ k. walked_fits m e is (n + 1) k s.1)
  where
    go : (u : Bool) → ltb n m ≡ u → (n + 1 ≤ m → WalkFits m e (walked m is (n + 1))) → WalkFits m e (elim u [ true ↦ walked m is (n + 1) | false ↦ Err (Full n) ])
    go true q k = k (let z = ltb-true n m q in omega arith)
    go false q k = h
