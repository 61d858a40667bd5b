pub mod Cuts
pub mod Decimals
pub mod Spaced
pub mod Listed
