-- The contextual machine.
pub mod Substitutes
pub mod Contextual
pub mod Calls
pub mod Manual
pub mod Work
