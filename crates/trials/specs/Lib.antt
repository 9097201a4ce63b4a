pub mod Shown
pub mod Tried
