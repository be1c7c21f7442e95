pub mod Gate
pub mod Unique
pub mod Full
pub mod Hits
pub mod Orders
