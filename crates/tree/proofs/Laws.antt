-- How a row comes about in the buffer, the name of an entry as the code reads it, and the root. Assumes nothing.
use mathlib.Core.Path.{◌≡◌, refl, ap, ◌∙◌}
use mathlib.Core.List.{List, [], ◌∷◌, ◌++◌, append_assoc}
use Prim.Native.Nat.{ℕ, zero, suc, ◌+◌, ◌-◌, ◌*◌, ◌/◌, ◌%◌, ◌≤◌}
use native.Mathlib.Nat.{le_trans, min-le_left}
use native.Mathlib.Omega.{arith}
use borrow.Author.Rules.{rules}
use lib.ListN.{length, get_or, take, drop, replicate, length-append, length-take}
use Rattle.directory.specs.Directory.{entry_at, name_length, name_at, row_of}
use Rattle.image.specs.Stores.{lay}
use Rattle.image.proofs.Laws.{span}
use Rattle.directory.specs.Entries.{file_at_is}
use Rattle.tree.specs.Items.{lay_none, lay_lay}

-- the name of an entry as the code reads it
module _ (l : List ℕ) (b b' i w : ℕ) (q : w ≡ get_or l (528 * b + 16 + 32 * i + 6) 0) (h : b ≡ b') where
  pub name_few : name_length l (entry_at b' i) ≤ 25 → w ≤ 25
  name_few k = rw (q, h) k

  pub name_read : take (528 * b + 16 + 32 * i + 7 + w - (528 * b + 16 + 32 * i + 7)) (drop (528 * b + 16 + 32 * i + 7) l) ≡ name_at l (entry_at b' i)
  name_read = rw (span, q, h)

pub part_short : (l : List ℕ) (a w : ℕ) → w ≤ 25 → length (take (a + w - a) (drop a l)) ≤ 25
part_short l a w h = rw (span, length-take) (le_trans (min-le_left w (length (drop a l))) h)

-- the root is a file, and a refused call leaves the rows
pub ruleset rooted = (file_at_is, lay_none, rules)

-- ---- a row, laid in three parts

zeros : (n m : ℕ) → n ≤ m → take {A = ℕ} n (replicate m 0) ≡ replicate n 0
zeros zero m h = refl
zeros (suc n) zero h = absurd (omega arith)
zeros (suc n) (suc m) h = ap (λ (r : List ℕ). 0 ∷ r) (zeros n m (omega arith))

abbrev head_of : ℕ → ℕ → ℕ → List ℕ → List ℕ
head_of t level what x = t % 256 ∷ t / 256 % 256 ∷ t / 65536 % 256 ∷ t / 16777216 % 256 ∷ level ∷ what ∷ length x ∷ []

pub row_laid : (b b₁ b₂ b₃ x : List ℕ) (a t level what : ℕ) → a + 32 ≤ length b → length x ≤ 25
    → b₁ ≡ lay b a (head_of t level what x) → b₂ ≡ lay b₁ (a + 7) x → b₃ ≡ lay b₂ (a + 7 + length x) (take (25 - length x - 0) (drop 0 (replicate 25 0)))
    → b₃ ≡ lay b a (row_of t level what x)
unfolding row_of
row_laid b b₁ b₂ b₃ x a t level what h k p q r = r ∙ rw (q, p, z, first, ← long, row_of) (lay_lay b (H ++ x) Z a (rw long (omega arith)) ∙ ap (lay b a) (append_assoc H x Z))
  where
    H : List ℕ
    H = head_of t level what x

    Z : List ℕ
    Z = replicate (25 - length x) 0

    z : take (25 - length x - 0) (drop 0 (replicate 25 0)) ≡ Z
    z = let i : 25 - length x - 0 ≡ 25 - length x = omega arith in rw i (zeros (25 - length x) 25 (omega arith))

    first : lay (lay b a H) (a + 7) x ≡ lay b a (H ++ x)
    first = lay_lay b H x a (omega arith)

    long : a + length (H ++ x) ≡ a + 7 + length x
    long = rw length-append (omega arith)
