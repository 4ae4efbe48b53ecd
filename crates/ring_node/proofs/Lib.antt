pub mod Again
pub mod Flights
pub mod Queue
pub mod Ring
pub mod Sending
pub mod Serving
pub mod Shown
pub mod Waits
