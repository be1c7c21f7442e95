-- Tests that compute, bounded quantifiers and counts, and lists of numbers: the words that every definition is written in.
use Rattle.std.specs.Prelude.{Bool, true, false, ◌&&◌, List, [], ◌∷◌, ℕ, zero, suc, ◌+◌, ltb, eqb}

abbrev pub pick : {A : Type 0} → Bool → A → A → A
pick true a b = a
pick false a b = b

-- both tests pass; every test of a list passes
unfoldable pub both : Bool → Bool → Bool
both true b = b
both false b = false

unfoldable pub every : List Bool → Bool
every [] = true
every (x ∷ xs) = x && every xs

-- P holds at each number below k
unfoldable pub all : ℕ → (ℕ → Bool) → Bool
all zero P = true
all (suc k) P = P k && all k P

-- how many numbers below k pass
unfoldable pub count : ℕ → (ℕ → Bool) → ℕ
count zero P = zero
count (suc k) P = pick (P k) 1 0 + count k P

-- f at i, i + 1, ..: k values
unfoldable pub tab_from : {A : Type 0} → ℕ → ℕ → (ℕ → A) → List A
tab_from i zero f = []
tab_from i (suc k) f = f i ∷ tab_from (suc i) k f

-- the numbers i, i + 1, .., k of them, that pass
unfoldable pub those : ℕ → ℕ → (ℕ → Bool) → List ℕ
those i zero P = []
those i (suc k) P = let r = those (suc i) k P in pick (P i) (i ∷ r) r

-- how often b stands in a list
unfoldable pub occ : ℕ → List ℕ → ℕ
occ b [] = 0
occ b (x ∷ xs) = pick (eqb b x) 1 0 + occ b xs

unfoldable pub last_of : ℕ → List ℕ → ℕ
last_of d [] = d
last_of d (x ∷ xs) = last_of x xs

unfoldable pub head_of : ℕ → List ℕ → ℕ
head_of d [] = d
head_of d (x ∷ xs) = x

-- in an ascending list: the first above b, the last below b, or 0
unfoldable pub above : ℕ → List ℕ → ℕ
above b [] = 0
above b (x ∷ xs) = pick (ltb b x) x (above b xs)

unfoldable pub below : ℕ → List ℕ → ℕ
below b [] = 0
below b (x ∷ xs) = pick (ltb x b) (let r = below b xs in pick (eqb r 0) x r) 0

-- two lists of numbers are equal; two lists of such lists are
unfoldable pub same_row : List ℕ → List ℕ → Bool
same_row [] [] = true
same_row [] (y ∷ ys) = false
same_row (x ∷ xs) [] = false
same_row (x ∷ xs) (y ∷ ys) = both (eqb x y) (same_row xs ys)

unfoldable pub same_table : List (List ℕ) → List (List ℕ) → Bool
same_table [] [] = true
same_table [] (y ∷ ys) = false
same_table (x ∷ xs) [] = false
same_table (x ∷ xs) (y ∷ ys) = both (same_row x y) (same_table xs ys)
