-- A reel: many lines lent together, each run by itself.
pub mod Parts
pub mod Reel
pub mod Runs
pub mod Morx
pub mod Through
pub mod Work
