pub mod Calls
pub mod Events
pub mod Refused
