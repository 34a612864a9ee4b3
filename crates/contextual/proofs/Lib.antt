-- Laws of the contextual machine.
mod Classes
mod Runs
mod Writes
mod Passes
pub mod Calls
pub mod Honesty
pub mod Manual
pub mod Turns
