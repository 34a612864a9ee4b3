-- Laws of the machine of format 1.
mod Slots
mod Readings
mod Acting
pub mod Sound
mod Passes
mod Loops
mod Steps
pub mod Calls
mod Classes
pub mod Turns
pub mod Behind
