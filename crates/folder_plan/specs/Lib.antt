pub mod Order
pub mod Undo
