pub mod Lines
pub mod Chips
pub mod Plans
pub mod Outcomes
pub mod Words
