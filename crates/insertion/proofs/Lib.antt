-- Laws of the insertion machine.
mod Lists
mod Shapes
mod Edits
mod Entries
pub mod Passes
mod Steps
mod Lone
mod Calls
pub mod Honesty
pub mod Manual
pub mod Turns
