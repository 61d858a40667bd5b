pub mod Alike
pub mod Alone
pub mod Divided
pub mod Kept
pub mod Law
