-- Laws of the rearrangement machine.
pub mod Calls
pub mod Passes
pub mod Honesty
pub mod Turns
