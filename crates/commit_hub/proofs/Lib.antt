pub mod Batches
pub mod Looks
pub mod Requests
pub mod Ties
pub mod Works
mod Halves
