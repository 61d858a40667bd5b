pub mod Accepted
pub mod Agree
pub mod Joined
pub mod Laws
pub mod Opening
pub mod Rules
pub mod Runs
pub mod Steps
