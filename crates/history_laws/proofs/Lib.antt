pub mod Beginnings
pub mod Chain
pub mod Handed
pub mod Runs
