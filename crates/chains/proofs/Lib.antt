-- Laws of the heads of a morx table.
mod Editions
mod Starts
pub mod Manual
pub mod Switching
pub mod ManualFlags
pub mod ManualWalk
