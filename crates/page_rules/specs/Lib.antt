pub mod Page
pub mod Printing
pub mod Theorems
