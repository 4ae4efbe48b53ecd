pub mod Brought
pub mod Codes
pub mod Core
pub mod FreeCore
pub mod Judged
pub mod Kept
pub mod Measure
