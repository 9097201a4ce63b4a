pub mod Cells
pub mod Texts
pub mod Entries
