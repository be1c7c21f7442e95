pub mod Tests
pub mod Laws
pub mod Sums
pub mod Refusals
