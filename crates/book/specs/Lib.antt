pub mod Book
pub mod Theorems
