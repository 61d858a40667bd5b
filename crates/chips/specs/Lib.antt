pub mod Dividers
pub mod Handles
pub mod Interrupts
pub mod Moves
pub mod PollLaws
pub mod Polls
pub mod Puts
pub mod Resets
