pub mod Eight
pub mod Putting
pub mod Rows
pub mod Reading
pub mod Differing
