-- The ligature machine.
pub mod Actions
pub mod Ligature
pub mod Calls
pub mod Manual
pub mod Work
