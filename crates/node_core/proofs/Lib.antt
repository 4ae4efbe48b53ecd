mod FloorsPut
pub mod Histories
mod Measures
mod Objections
mod Refusals
mod Retiring
mod Steps
mod Views
