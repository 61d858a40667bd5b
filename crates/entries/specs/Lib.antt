pub mod Keys
pub mod Rows
pub mod Values
pub mod Entries
pub mod Written
