pub mod Flight
pub mod Left
pub mod Recovered
pub mod Results
pub mod Standing
