pub mod Forms
pub mod Lines
pub mod Texts
pub mod Written
