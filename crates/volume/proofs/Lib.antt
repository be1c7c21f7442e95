pub mod KeyLaws
pub mod Index
pub mod Order
pub mod Frame
pub mod Closed
pub mod Steps
pub mod Readings
pub mod Same
