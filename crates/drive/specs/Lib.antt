pub mod Rows
pub mod Code
pub mod Address
pub mod Answers
pub mod Laws
pub mod Wording
pub mod Fits
pub mod Ranges
