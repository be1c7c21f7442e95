pub mod Choice
pub mod Left
pub mod Unique
