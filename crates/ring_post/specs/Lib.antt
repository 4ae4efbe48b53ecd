pub mod Room
pub mod Credits
pub mod Routes
pub mod Letters
pub mod Asks
pub mod Codes
pub mod Chronicles
pub mod Intakes
