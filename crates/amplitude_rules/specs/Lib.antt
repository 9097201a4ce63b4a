pub mod Amplitude
pub mod Reading
pub mod Writing
pub mod Theorems
