pub mod Lines
pub mod Parts
pub mod Numbers
