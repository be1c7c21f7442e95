pub mod Signs
pub mod Laws
pub mod Ways
