-- The rearrangement machine.
pub mod Rearrangement
pub mod Calls
