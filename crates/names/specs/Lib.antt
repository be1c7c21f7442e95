pub mod Laws
pub mod Exactly
pub mod NameTable
pub mod Turns
