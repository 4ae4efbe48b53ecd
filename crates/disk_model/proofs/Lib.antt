pub mod Ranges
pub mod Images
pub mod Shadows
pub mod Moments
pub mod Changed
