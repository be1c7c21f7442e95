pub mod Directory
pub mod Entries
pub mod Paths
