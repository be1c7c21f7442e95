-- Read Statement first, then Answering; the other rooms say what its proof, in proofs/, speaks of, and a few facts that it rests on.

-- the statement, and the same in the calls' own terms
pub mod Statement
pub mod Answering
-- a law of repair: an all-zero partition becomes a fresh one
pub mod Zeroed
-- files in two views, repairs that are cut, what makes a partition sound, what its files need, and lawful stores
pub mod SameFile
pub mod Cut
pub mod FreeBlocks
pub mod Needed
pub mod Lawful
-- the calls: records, blocks and lists that their stores are made of, and what each does to its file
pub mod Fresh
pub mod Create
pub mod Returned
pub mod Gone
pub mod Effect
