-- Laws of the machine of anchored marks.
pub mod Writing
pub mod Acting
pub mod Passes
pub mod Turns
pub mod Exactly
pub mod Calls
pub mod Manual
pub mod Steps
