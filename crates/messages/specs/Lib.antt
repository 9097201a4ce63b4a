pub mod Message
pub mod Bytes
pub mod Walk
pub mod Theorems
