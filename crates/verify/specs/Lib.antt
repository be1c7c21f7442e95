pub mod Walks
pub mod Survey
