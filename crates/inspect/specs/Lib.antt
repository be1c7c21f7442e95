pub mod Numbers
pub mod Form
pub mod Parts
