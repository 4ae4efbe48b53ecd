pub mod Doors
pub mod Marks
pub mod Refusals
pub mod Stands
pub mod Told
pub mod Waiters
