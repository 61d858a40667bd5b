pub mod Said
pub mod Written
