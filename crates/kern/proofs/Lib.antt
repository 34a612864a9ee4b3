-- Laws of the kern table.
mod Heads
mod Works
pub mod Cursors
pub mod Manual
