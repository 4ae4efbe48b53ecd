pub mod Books
pub mod Calls
pub mod Happenings
pub mod Looks
pub mod Starts
pub mod Wanting
