-- Read Theorem first, then Laws and Answering; the other rooms are the proof, from the ground up.

-- the proof of the statement, the laws beside it, and the same in the calls' own terms
pub mod Theorem
pub mod Laws
pub mod Answering
-- a law of repair: an all-zero partition becomes a fresh one
pub mod Zeroed
-- files in two views, a run of stores that is cut, what makes a partition sound, and lawful stores
pub mod SameFile
pub mod Cut
pub mod Whole
pub mod Lawful
-- the calls, one by one: each changes its file alone at its deciding store, whole leaves a sound partition, and stores lawfully
pub mod Create
pub mod OneBlock
pub mod Gone
pub mod Destroy
pub mod LawfulRepair
pub mod Effect
-- from views to images: what each call owes and comes to, an image that holds a partition
pub mod Owes
pub mod Write
pub mod Settled
pub mod Stopped
pub mod Held
pub mod Accepting
