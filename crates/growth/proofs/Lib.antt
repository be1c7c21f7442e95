pub mod Early
pub mod Promise
