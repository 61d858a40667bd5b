pub mod Faults
pub mod Verdicts
pub mod Blame
pub mod Frames
