pub mod Mending
pub mod Turns
pub mod Answer
