pub mod Laws
pub mod Joined
pub mod Places
pub mod Stated
