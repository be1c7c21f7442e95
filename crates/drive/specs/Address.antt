-- Addresses on a drive by its number. A header holds physical addresses and a file's index logical ones: the two are never compared,
-- each is turned into a block first. Two words are one number, low word + 65536 * high word; 0 is nil.
use Rattle.std.specs.Prelude.{Bool, ℕ, ◌*◌, ◌/◌, eqb}
use Rattle.base.specs.Tests.{pick}
use Rattle.drive.specs.Code.{encode, decode}
use Rattle.drive.specs.Rows.{on_drive, pda_code, lda_code, id_code}

-- how many blocks a drive has
unfoldable pub blocks : ℕ → ℕ
blocks = on_drive (λ g. g.blocks)

-- the PDA of block b, and the only block whose PDA x can be
unfoldable pub pda : ℕ → ℕ → ℕ
pda d b = on_drive (λ g. encode (pda_code g) b) d

unfoldable pub pda_block : ℕ → ℕ → ℕ
pda_block d x = on_drive (λ g. decode (pda_code g) x) d

-- the PDA of a block, or nil for 0
abbrev pub or_nil : ℕ → ℕ → ℕ
or_nil d b = pick (eqb b 0) 0 (pda d b)

-- the LDA of block b, and the only block whose LDA x can be
unfoldable pub lda : ℕ → ℕ → ℕ
lda d b = on_drive (λ g. encode (lda_code g) b) d

unfoldable pub lda_block : ℕ → ℕ → ℕ
lda_block d x = on_drive (λ g. decode (lda_code g) x) d

-- an LDA without bits 0-7 of its low word: they are reserved, a reader does not look at them, and a writer leaves them zero
abbrev pub cleaned : ℕ → ℕ
cleaned x = x / 256 * 256

-- x decodes to block b as an LDA: but for the reserved bits it is b's. Neither nil nor a number of such bits alone decodes
unfoldable pub is_lda : ℕ → ℕ → ℕ → Bool
is_lda d x b = eqb (cleaned x) (lda d b)

-- the LDA of b as it is written over `old`: where that names b already it stays, reserved bits and all
unfoldable pub address : ℕ → ℕ → ℕ → ℕ
address d old b = pick (is_lda d old b) old (lda d b)

-- the FileID of block b, and the only block whose FileID x can be
unfoldable pub file_id : ℕ → ℕ → ℕ
file_id d b = on_drive (λ g. encode (id_code g) b) d

unfoldable pub file_id_block : ℕ → ℕ → ℕ
file_id_block d x = on_drive (λ g. decode (id_code g) x) d

-- how many FileIDs a drive has
unfoldable pub file_ids : ℕ → ℕ
file_ids = on_drive (λ g. g.ids)
