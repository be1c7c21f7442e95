-- The addresses drive by drive and word by word, as docs/FORMAT.md has them in 2.2, 2.4 and 2.6, are the rule over the rows.
use Rattle.std.specs.Prelude.{◌≡◌, ℕ, ◌+◌, ◌*◌, ◌/◌, ◌%◌}
use Rattle.std.proofs.Common.{arith}
use Rattle.drive.specs.Code.{place_number}
use Rattle.drive.specs.Rows.{on_drive}
use Rattle.drive.specs.Address.{pda, lda, file_id}

-- low word: cylinder in bits 8-15, track in 5-7, sector in 0-4; sector b + 30, 30 a track, 4 tracks a cylinder
pub shugart12_pda : (b : ℕ) → pda 0 b ≡ (b + 30) % 30 + 32 * ((b + 30) / 30 % 4) + 256 * ((b + 30) / 30 / 4)
unfolding pda on_drive place_number
shugart12_pda b = omega arith

-- the same with 8 tracks
pub shugart24_pda : (b : ℕ) → pda 1 b ≡ (b + 30) % 30 + 32 * ((b + 30) / 30 % 8) + 256 * ((b + 30) / 30 / 8)
unfolding pda on_drive place_number
shugart24_pda b = omega arith

-- low word: track in bits 8-15, sector in 0-7; high word: cylinder; sector b + 48, 24 a track, 5 tracks a cylinder
pub micropolis_pda : (b : ℕ) → pda 2 b ≡ (b + 48) % 24 + 256 * ((b + 48) / 24 % 5) + 65536 * ((b + 48) / 24 / 5)
unfolding pda on_drive place_number
micropolis_pda b = omega arith

-- low word: sector 3 + 4 (b mod 6); high word: cylinder 5 + b / 6
pub floppy_pda : (b : ℕ) → pda 3 b ≡ (3 + 4 * (b % 6)) + 65536 * (5 + b / 6)
unfolding pda on_drive place_number
floppy_pda b = omega arith

-- low word: the LBN's low eight bits in bits 8-15; high word: the others, and bits 14 and 15; a floppy has bit 13 too
pub shugart12_lda : (b : ℕ) → lda 0 b ≡ 256 * (b % 256) + 65536 * (b / 256 + 0o140000)
unfolding lda on_drive place_number
shugart12_lda b = omega arith

pub shugart24_lda : (b : ℕ) → lda 1 b ≡ 256 * (b % 256) + 65536 * (b / 256 + 0o140000)
unfolding lda on_drive place_number
shugart24_lda b = omega arith

pub micropolis_lda : (b : ℕ) → lda 2 b ≡ 256 * (b % 256) + 65536 * (b / 256 + 0o140000)
unfolding lda on_drive place_number
micropolis_lda b = omega arith

pub floppy_lda : (b : ℕ) → lda 3 b ≡ 256 * (b % 256) + 65536 * (b / 256 + 0o160000)
unfolding lda on_drive place_number
floppy_lda b = omega arith

-- a FileID is the LBN on a hard drive, and 57,344 more on a floppy
pub shugart12_id : (b : ℕ) → file_id 0 b ≡ b
unfolding file_id on_drive place_number
shugart12_id b = omega arith

pub shugart24_id : (b : ℕ) → file_id 1 b ≡ b
unfolding file_id on_drive place_number
shugart24_id b = omega arith

pub micropolis_id : (b : ℕ) → file_id 2 b ≡ b
unfolding file_id on_drive place_number
micropolis_id b = omega arith

pub floppy_id : (b : ℕ) → file_id 3 b ≡ 57344 + b
unfolding file_id on_drive place_number
floppy_id b = omega arith
