pub mod Boards
pub mod History
pub mod Leaders
pub mod Next
pub mod Posts
pub mod Readers
pub mod Stores
