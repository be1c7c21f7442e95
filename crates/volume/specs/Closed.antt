-- What a file without holes has, in closed form: its link order is -(3+P) .. -4, then -3 and -2 where it has them, -1, 0 .. L.
use Rattle.std.specs.Prelude.{Bool, not, ◌||◌, ◌&&◌, ℕ, suc, ◌+◌, ◌-◌, ◌/◌, ◌%◌, ltb, eqb}
use Rattle.base.specs.Tests.{pick}
use Rattle.volume.specs.Keys.{home, first, low}

-- key k is that of a data block behind another one that the same block names
abbrev pub stays : ℕ → Bool
stays k = ltb 292 k && not (eqb (k % 128) 100)

-- a file with n blocks has key k
abbrev pub has_key : ℕ → ℕ → Bool
has_key n k = eqb k home || ltb (first k) n

-- the least that it has of the keys of -3, -2 and the FIB: the one behind -4's
abbrev pub nearest : ℕ → ℕ
nearest n = pick (ltb 20544 n) 289 (pick (ltb 4160 n) 290 home)

-- the key behind and before one that it has, or 0; how many keys it has
abbrev pub next_key : ℕ → ℕ → ℕ
next_key n k = pick (eqb k 288) (nearest n) (pick (ltb k (home + n)) (suc k) 0)

abbrev pub prev_key : ℕ → ℕ → ℕ
prev_key n k = pick (eqb k (low n)) 0 (pick (eqb k (nearest n)) 288 (k - 1))

abbrev pub size_of : ℕ → ℕ
size_of n = 289 - low n + (home - nearest n) + suc n

-- how many entries of pointer block k a file with n blocks asks for: an entry leads to 128 blocks in -2 and -3, to one in the others
abbrev pub leading : ℕ → ℕ → ℕ
leading n k = pick (ltb 288 k) ((n - first k + 127) / 128) (n - first k)

abbrev pub entries_of : ℕ → ℕ → ℕ
entries_of n k = pick (ltb (leading n k) 128) (leading n k) 128
