pub mod Asked
pub mod Counts
pub mod Lines
pub mod Progress
