-- The insertion machine.
pub mod Lists
pub mod Insertion
pub mod Calls
pub mod Lone
pub mod Manual
pub mod Work
