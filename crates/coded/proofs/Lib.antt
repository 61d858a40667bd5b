pub mod Placed
pub mod NewRows
pub mod OldRows
