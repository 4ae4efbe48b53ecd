pub mod Fits
pub mod Leaders
pub mod LinkFits
pub mod Messages
pub mod Opened
pub mod Order
pub mod Renewed
pub mod Contents
