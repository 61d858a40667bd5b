pub mod Places
pub mod NewRows
pub mod OldRows
