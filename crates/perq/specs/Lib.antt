pub mod Flat
pub mod Fits
pub mod Named
pub mod Spelt
pub mod Unique
pub mod Demand3
