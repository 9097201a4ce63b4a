pub mod Minutes
pub mod Laws
pub mod Stepping
pub mod Legal
pub mod Schedules
pub mod Bytes
pub mod Stated
