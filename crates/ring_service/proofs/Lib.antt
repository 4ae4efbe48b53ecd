pub mod Begun
pub mod Commands
pub mod Contents
pub mod Keys
pub mod Launches
pub mod Leaders
pub mod Next
mod Readers
pub mod Restarted
pub mod Resting
pub mod Series
pub mod Stops
