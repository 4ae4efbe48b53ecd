pub mod Held
pub mod Messages
pub mod Node
pub mod Open
pub mod Refusals
