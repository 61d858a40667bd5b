pub mod Sheets
pub mod Readings
pub mod Lacks
pub mod Asked
