pub mod Appends
mod Floats
mod Names
