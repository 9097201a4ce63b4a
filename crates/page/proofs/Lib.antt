pub mod Parts
pub mod Lines
pub mod Pages
pub mod Answers
