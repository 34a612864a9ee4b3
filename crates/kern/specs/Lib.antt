-- The kern table.
pub mod Ends
pub mod Heads
pub mod Kern
pub mod Manual
