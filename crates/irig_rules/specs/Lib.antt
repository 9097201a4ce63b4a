pub mod Irig
pub mod Reading
pub mod Writing
pub mod Theorems
