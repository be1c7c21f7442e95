pub mod Ready
pub mod Standing
pub mod Records
pub mod Relink
