-- Relative numbers as keys, in link order, and which block names which.
use Rattle.std.specs.Prelude.{ℕ, suc, ◌+◌, ◌-◌, ◌*◌, ◌/◌, ◌%◌, ltb, eqb}
use Rattle.base.specs.Tests.{pick}
use Rattle.volume.specs.Words.{slot_at, direct_at, indirect_at, double_at}

-- the key of relative number rel is rel + 292: -291 is 1, -3 is 289, -2 is 290, the FIB's -1 is 291, block r is 292 + r; 0 is no key
abbrev pub home : ℕ
home = 291

-- a header's relative number and its key
unfoldable pub key_of : ℕ → ℕ
key_of w = (w + 292) % 65536

unfoldable pub number : ℕ → ℕ
number k = (k + 65244) % 65536

-- how far the index reaches: L + 1 is at most this
abbrev pub reach : ℕ
reach = 32767

-- the key of the block that names k: a pointer block -(4+j) names blocks 64+128j on; the FIB names blocks 0 to 63, -2, -3 and -4 to -35; -2
-- names -36 to -163 and -3 names -164 to -291
unfoldable pub up : ℕ → ℕ
up k = pick (ltb 355 k) (288 - (k - 356) / 128) (pick (ltb 256 k) home (290 - (256 - k) / 128))

-- the word of that block's record at which the entry of k stands
unfoldable pub slot : ℕ → ℕ
slot k =
    pick (ltb 355 k) (slot_at ((k - 356) % 128)) (pick (ltb home k) (direct_at (k - 292)) (pick (ltb 288 k) (double_at + 2 * (290 - k))
    (pick (ltb 256 k) (indirect_at (288 - k)) (slot_at ((256 - k) % 128)))))

-- the key whose entry has word w of the block with key q
unfoldable pub child : ℕ → ℕ → ℕ
child q w =
    pick (eqb q home) (pick (ltb w (indirect_at 0)) (292 + (w - direct_at 0) / 2) (pick (ltb w double_at) (288 - (w - indirect_at 0) / 2) (290 - (w - double_at) / 2)))
    (pick (ltb 288 q) (256 - 128 * (290 - q) - (w - slot_at 0) / 2) (356 + 128 * (288 - q) + (w - slot_at 0) / 2))

-- the lowest relative block that k leads to; k is wanted if that is at most L
unfoldable pub first : ℕ → ℕ
first k =
    pick (ltb home k) (k - 292) (pick (eqb k home) 0 (pick (ltb 288 k) (4160 + 16384 * (290 - k)) (64 + 128 * (288 - k))))

-- the least key that n blocks can want; how many keys from there to the last of them
unfoldable pub low : ℕ → ℕ
low n = pick (ltb 64 n) (289 - (n + 63) / 128) home

unfoldable pub span : ℕ → ℕ
span n = home + suc n - low n
