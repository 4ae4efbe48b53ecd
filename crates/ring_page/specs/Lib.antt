pub mod Escaped
pub mod Frame
pub mod Leaders
pub mod Nodes
pub mod Pages
