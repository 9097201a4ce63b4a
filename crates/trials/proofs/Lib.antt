pub mod Given
pub mod Sent
pub mod Read
