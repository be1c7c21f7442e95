-- What each way through the code of a walk leaves to do: one law for each.
use Rattle.std.specs.Prelude.{◌≡◌, Bool, length, Option, Some, None, Ok, Err}
use Rattle.std.proofs.Math.Path.{refl, sym, ap}
use Rattle.std.proofs.Common.{◌∙◌, subst}
use Rattle.std.proofs.Math.Bool.{true, false}
use mathlib.Core.List.{List, [], ◌∷◌, ◌++◌}
use Prim.Native.Nat.{ℕ, zero, suc, ◌+◌, ◌-◌, ◌*◌, ◌≤◌, ◌<◌}
use native.Mathlib.Omega.{arith}
use Rattle.base.specs.Tests.{pick}
use Rattle.base.specs.declared.Refusal.TheVariants.{TooDeep}
use Rattle.image.specs.Image.{view}
use Rattle.volume.proofs.Steps.{more, none}
use Rattle.volume.specs.Files.{len}
use Rattle.volume.specs.declared.Partition.{Partition}
use Rattle.directory.specs.Directory.{Selection, name_at, place_of, met_at, Item, row, tenth, row_of, block_of, what_of, inside_of, items_of, entries, tree, Walk, walked, fitting, walked_as}
use Rattle.image.specs.Stores.{lay}
use Rattle.directory.specs.Entries.{met_short}
use Rattle.directory.specs.declared.Target.{Target}
use Rattle.directory.specs.declared.Target.TheVariants.{File, Directory, Dangling}
use Rattle.directory.specs.declared.Stop.{Stop}
use Rattle.directory.specs.declared.Stop.TheVariants.{Full, Deep}
use Rattle.tree.specs.Items.{lay_none, lay_lay, Sized, row_long, name_short, fitting_none, fitting_tenth, fitting_row, fitting_full, walked_row, walked_full, Counts, counts, Then, walked_then, WalkFits, walked_fits}

-- what a walk writes with room for m rows, if it writes
abbrev pub writes : Bool → ℕ → List Item → List ℕ
writes on m is = pick on (fitting m is) []

-- ---- the bytes that a walk has yet to lay

module _ (on : Bool) (m n : ℕ) where
  row_laid : (r : List ℕ) (ys : List Item) (b b' : List ℕ) → n < m → length r ≡ 32 → 32 * m ≤ length b → b' ≡ pick on (lay b (32 * n) r) b
      → lay b (32 * n) (writes on (m - n) (row r ∷ ys)) ≡ lay b' (32 * (n + 1)) (writes on (m - (n + 1)) ys)
  row_laid r ys b b' h q room e = go on e
    where
      go : (u : Bool) → b' ≡ pick u (lay b (32 * n) r) b → lay b (32 * n) (writes u (m - n) (row r ∷ ys)) ≡ lay b' (32 * (n + 1)) (writes u (m - (n + 1)) ys)
      go true e =
          let z : 32 * n + length r ≡ 32 * (n + 1) = omega arith in
          ap (lay b (32 * n)) (fitting_row m n r ys h) ∙ sym (lay_lay b r (fitting (m - (n + 1)) ys) (32 * n) (omega arith)) ∙ rw (z, e)
      go false e = lay_none b (32 * n) ∙ sym e ∙ sym (lay_none b' (32 * (n + 1)))

  went_laid : (xs ys : List Item) (b b' : List ℕ) (i : ℕ) → fitting (m - n) (xs ++ ys) ≡ fitting (m - n) xs ++ fitting (m - i) ys → 32 * n + length (fitting (m - n) xs) ≡ 32 * i → i ≤ m → 32 * m ≤ length b
      → b' ≡ lay b (32 * n) (writes on (m - n) xs)
      → lay b (32 * n) (writes on (m - n) (xs ++ ys)) ≡ lay b' (32 * i) (writes on (m - i) ys)
  went_laid xs ys b b' i g z h room e = go on e
    where
      go : (u : Bool) → b' ≡ lay b (32 * n) (writes u (m - n) xs) → lay b (32 * n) (writes u (m - n) (xs ++ ys)) ≡ lay b' (32 * i) (writes u (m - i) ys)
      go true e =
          ap (lay b (32 * n)) g ∙ sym (lay_lay b (fitting (m - n) xs) (fitting (m - i) ys) (32 * n) (omega arith)) ∙ rw (z, e)
      go false e = lay_none b (32 * n) ∙ sym (lay_none b (32 * n)) ∙ sym e ∙ sym (lay_none b' (32 * i))

  ended_laid : (xs ys : List Item) (b : List ℕ) → fitting (m - n) (xs ++ ys) ≡ fitting (m - n) xs → lay b (32 * n) (writes on (m - n) xs) ≡ lay b (32 * n) (writes on (m - n) (xs ++ ys))
  ended_laid xs ys b g = ap (lay b (32 * n)) (go on)
    where
      go : (u : Bool) → writes u (m - n) xs ≡ writes u (m - n) (xs ++ ys)
      go true = sym g
      go false = refl

-- ---- the ways through the walk

-- items `is` are left with n rows filled, and the buffer b: what is left has the whole's answer w and the whole's bytes
pub record Leaves (m : ℕ) (on : Bool) (size : ℕ) (final : List ℕ) (w : Walk) (is : List Item) (n : ℕ) (b : List ℕ) : Type 0 where
  pub left : walked m is n ≡ w
  pub bytes : lay b (32 * n) (writes on (m - n) is) ≡ final
  pub long : length b ≡ size
  pub room : 32 * m ≤ size

pub leaves_all : (m : ℕ) (on : Bool) (is : List Item) (n : ℕ) (b : List ℕ) → 32 * m ≤ length b → Leaves m on (length b) (lay b (32 * n) (writes on (m - n) is)) (walked m is n) is n b
leaves_all m on is n b h = record { left = refl; bytes = refl; long = refl; room = h }

module _ {m : ℕ} {on : Bool} {size : ℕ} {final : List ℕ} {w : Walk} where
  -- nothing is left
  pub leaves_none : {n : ℕ} {b : List ℕ} → Leaves m on size final w [] n b → (Ok n ≡ w) × (b ≡ final)
  unfolding walked
  leaves_none {n} {b} s = (s.left, sym (lay_none b (32 * n)) ∙ ap (lay b (32 * n)) (go on) ∙ s.bytes)
    where
      go : (u : Bool) → [] ≡ writes u (m - n) []
      go true = sym (fitting_none (m - n))
      go false = refl

  -- a directory of the tenth level
  pub leaves_tenth : {f n : ℕ} {b : List ℕ} → Leaves m on size final w (tenth f ∷ []) n b → (Err (Deep f) ≡ w) × (b ≡ final)
  unfolding walked
  leaves_tenth {f} {n} {b} s = (s.left, sym (lay_none b (32 * n)) ∙ ap (lay b (32 * n)) (go on) ∙ s.bytes)
    where
      go : (u : Bool) → [] ≡ writes u (m - n) (tenth f ∷ [])
      go true = sym (fitting_tenth (m - n) f [])
      go false = refl

  module _ {r : List ℕ} {is : List Item} {n : ℕ} {b : List ℕ} (s : Leaves m on size final w (row r ∷ is) n b) where
    -- no row is left
    pub leaves_full : m ≤ n → (Err (Full n) ≡ w) × (b ≡ final)
    leaves_full h = (sym (walked_full m n r is h) ∙ s.left, sym (lay_none b (32 * n)) ∙ ap (lay b (32 * n)) (go on) ∙ s.bytes)
      where
        go : (u : Bool) → [] ≡ writes u (m - n) (row r ∷ is)
        go true = sym (fitting_full m n (row r ∷ is) h)
        go false = refl

    -- the row is laid
    pub leaves_row : {b' : List ℕ} → n < m → length r ≡ 32 → b' ≡ pick on (lay b (32 * n) r) b → length b' ≡ length b → Leaves m on size final w is (n + 1) b'
    leaves_row {b'} h q e k = let z = s.long in let y = s.room in
        record { left = sym (walked_row m n r is h) ∙ s.left; bytes = sym (row_laid on m n r is b b' h q (omega arith) e) ∙ s.bytes; long = k ∙ z; room = y }

  -- the items xs are walked, which came to y and the buffer b'
  module _ (e : ℕ) (xs ys : List Item) {n : ℕ} {b b' : List ℕ} {y : Walk} (s : Leaves m on size final w (xs ++ ys) n b) (z : Sized e xs) (h : n ≤ m)
      (q : y ≡ walked m xs n) (l : b' ≡ lay b (32 * n) (writes on (m - n) xs)) where
    came : Then m xs ys n y
    came = subst (Then m xs ys n) (sym q) (walked_then m xs ys n)

    pub leaves_back : {i : ℕ} → y ≡ Ok i → length b' ≡ length b → Leaves m on size final w ys i b'
    leaves_back {i} c k =
        let g : Then m xs ys n (Ok i) = subst (Then m xs ys n) c came in
        let f : i ≤ m = subst (WalkFits m e) (sym q ∙ c) (walked_fits m e xs n h z) in
        let a : 32 * n + length (fitting (m - n) xs) ≡ 32 * i = subst (Counts m n xs) (sym q ∙ c) (counts m e xs n z) in
        let u = s.long in
        let v = s.room in
        record { left = sym g.0 ∙ s.left; bytes = sym (went_laid on m n xs ys b b' i g.1 a f (omega arith) l) ∙ s.bytes; long = k ∙ u; room = v }

    pub leaves_stopped : {a : Stop} → y ≡ Err a → (Err a ≡ w) × (b' ≡ final)
    leaves_stopped {a} c = let g : Then m xs ys n (Err a) = subst (Then m xs ys n) c came in (sym g.0 ∙ s.left, l ∙ ended_laid on m n xs ys b g.1 ∙ s.bytes)

module _ {m : ℕ} {on : Bool} {size : ℕ} {final : List ℕ} {w : Walk} (π : Partition) (l : List ℕ) (sel : Selection) where
  -- directory f, which has k entries and d levels left, this one counted
  pub walk_deep : (d f : ℕ) {n : ℕ} {b : List ℕ} → Leaves m on size final w (tree π l sel d f) n b → d < 1 → (Err (Deep f) ≡ w) × (b ≡ final)
  unfolding tree
  walk_deep zero f s h = leaves_tenth s
  walk_deep (suc d) f s h = absurd (omega arith)

  pub walk_starts : (d d' level k f : ℕ) {n : ℕ} {b : List ℕ} → Leaves m on size final w (tree π l sel d f) n b → d ≡ suc d' → level ≡ 9 - d' → k ≡ 16 * len (view l) f
      → Leaves m on size final w (entries π l sel (tree π l sel d') level f 0 (k - 0)) n b
  unfolding tree
  walk_starts d d' level k f s h v q =
      let z : k - 0 ≡ 16 * len (view l) f = omega arith in
      rw (v, z) (rw (h, tree) at s)

  module _ (below : ℕ → List Item) (level f k j : ℕ) {n : ℕ} {b : List ℕ} (s : Leaves m on size final w (entries π l sel below level f j (k - j)) n b) where
    pub walk_ends : k ≤ j → (Ok n ≡ w) × (b ≡ final)
    unfolding entries
    walk_ends h = leaves_none (rw (none h, entries) at s)

    module _ {x : Option Target} (h : j < k) (q : x ≡ met_at π l sel f j) where
      met_next : Leaves m on size final w (items_of l below level (place_of π l f j) x ++ entries π l sel below level f (j + 1) (k - (j + 1))) n b
      unfolding entries
      met_next = rw q (rw (more h, entries) at s)

      pub walk_skip : x ≡ None → Leaves m on size final w (entries π l sel below level f (j + 1) (k - (j + 1))) n b
      walk_skip z = rw z at met_next

      module _ {o : Target} (z : x ≡ Some o) where
        abbrev pub laid : List ℕ
        laid = row_of (block_of o) level (what_of o) (name_at l (place_of π l f j))

        abbrev pub rest : List Item
        rest = entries π l sel below level f (j + 1) (k - (j + 1))

        walk_taken : Leaves m on size final w (row laid ∷ (inside_of below o ++ rest)) n b
        walk_taken = rw z at met_next

        pub walk_full : m ≤ n → (Err (Full n) ≡ w) × (b ≡ final)
        walk_full r = leaves_full walk_taken r

        -- with its row laid
        module _ {b' : List ℕ} (r : n < m) (u : b' ≡ pick on (lay b (32 * n) laid) b) (v : length b' ≡ length b) where
          rowed : Leaves m on size final w (inside_of below o ++ rest) (n + 1) b'
          rowed = leaves_row walk_taken r (row_long _ level _ _ (name_short l _ (met_short π l sel f j (sym q ∙ z)))) u v

          pub walk_row : ((t : ℕ) → o ≡ Directory t → ⊥) → Leaves m on size final w rest (n + 1) b'
          walk_row c = go o c rowed
            where
              go : (o : Target) → ((t : ℕ) → o ≡ Directory t → ⊥) → Leaves m on size final w (inside_of below o ++ rest) (n + 1) b' → Leaves m on size final w rest (n + 1) b'
              go (File t) c s = s
              go Dangling c s = s
              go (Directory t) c s = absurd (c t refl)

          -- into the directory, and what that walk came to
          module _ {t : ℕ} (c : o ≡ Directory t) {y : Walk} {b'' : List ℕ} (sized : Sized π.e (below t)) (i : y ≡ walked m (below t) (n + 1)) (g : b'' ≡ lay b' (32 * (n + 1)) (writes on (m - (n + 1)) (below t))) where
            down : Leaves m on size final w (below t ++ rest) (n + 1) b'
            down = rw c at rowed

            pub walk_back : {a : ℕ} → y ≡ Ok a → length b'' ≡ length b' → Leaves m on size final w rest a b''
            walk_back p e = leaves_back π.e (below t) rest down sized (omega arith) i g p e

            pub walk_stopped : {a : Stop} → y ≡ Err a → (Err a ≡ w) × (b'' ≡ final)
            walk_stopped p = leaves_stopped π.e (below t) rest down sized (omega arith) i g p

-- ---- the call: a walk that writes nothing decides, and then one that writes

module _ (m : ℕ) (is : List Item) (w : Walk) (b b₁ : List ℕ) (q : w ≡ walked m is 0) (e₁ : b₁ ≡ lay b (32 * 0) (writes false (m - 0) is)) where
  same : b₁ ≡ b
  same = e₁ ∙ lay_none b (32 * 0)

  module _ (b₂ : List ℕ) (e₂ : b₂ ≡ lay b₁ (32 * 0) (writes true (m - 0) is)) where
    filled : b₂ ≡ lay b 0 (fitting m is)
    filled = let z : m - 0 ≡ m = omega arith in e₂ ∙ rw (z, same)

    pub tree_going : {n : ℕ} → w ≡ Ok n → (Ok (Some (n, 0, 0)) ≡ (walked_as (walked m is 0) (fitting m is)).outcome) × (b₂ ≡ lay b 0 (walked_as (walked m is 0) (fitting m is)).rows)
    tree_going c = let z = sym q ∙ c in (rw z, rw z filled)

    pub tree_stopped : {n : ℕ} → w ≡ Err (Full n) → (Ok (Some (n, 1, 0)) ≡ (walked_as (walked m is 0) (fitting m is)).outcome) × (b₂ ≡ lay b 0 (walked_as (walked m is 0) (fitting m is)).rows)
    tree_stopped c = let z = sym q ∙ c in (rw z, rw z filled)

  pub tree_deep : {f : ℕ} → w ≡ Err (Deep f) → (Err (TooDeep f) ≡ (walked_as (walked m is 0) (fitting m is)).outcome) × (b₁ ≡ lay b 0 (walked_as (walked m is 0) (fitting m is)).rows)
  tree_deep c = let z = sym q ∙ c in (rw z, rw z (same ∙ sym (lay_none b 0)))
