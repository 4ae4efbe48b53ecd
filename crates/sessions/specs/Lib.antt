pub mod Commands
pub mod Session
pub mod Solo
