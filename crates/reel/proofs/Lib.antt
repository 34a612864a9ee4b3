-- Laws of a reel.
pub mod Parts
pub mod Exact
pub mod Lines
pub mod Orders
pub mod Kept
pub mod Going
pub mod Calls
pub mod Through
pub mod Tables
