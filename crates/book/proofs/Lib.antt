pub mod Gathering
pub mod Space
pub mod Printed
pub mod Recording
pub mod Inputs
pub mod Stated
