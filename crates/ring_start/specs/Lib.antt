pub mod Fits
pub mod Checks
pub mod Written
