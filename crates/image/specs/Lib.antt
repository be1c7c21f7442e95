pub mod View
pub mod Image
pub mod Stores
pub mod Saves
pub mod Signed
