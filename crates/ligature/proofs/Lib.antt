-- Laws of the ligature machine.
mod Offsets
mod Ligations
mod Acting
mod Entering
mod Running
mod Slots
mod Runs
mod Passes
mod Calls
pub mod Manual
pub mod Honesty
pub mod Turns
pub mod ActionTurns
pub mod EntryTurns
