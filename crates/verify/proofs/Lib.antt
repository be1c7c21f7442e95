pub mod Free
pub mod Pigeon
pub mod Chains
pub mod Surveys
