pub mod Blamed
pub mod Bits
