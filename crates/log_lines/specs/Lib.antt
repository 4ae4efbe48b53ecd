pub mod Forms
pub mod Quotas
pub mod Spells
pub mod Streams
