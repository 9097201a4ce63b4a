pub mod Answer
pub mod Bytes
pub mod Rest
