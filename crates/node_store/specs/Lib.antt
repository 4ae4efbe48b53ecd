pub mod Flushed
pub mod Flying
pub mod Node
pub mod Props
pub mod Recovery
pub mod Standing
pub mod State
pub mod Unbegun
