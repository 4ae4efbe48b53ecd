pub mod Added
pub mod Forms
pub mod Texts
pub mod Words
