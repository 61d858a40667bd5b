pub mod Early
pub mod Nearest
pub mod Settled
