-- Laws behind the functions' proofs and the theorems.
mod Putting
pub mod Powers
mod Keeping
mod Filling
mod Heads
mod Sweeping
mod Writing
mod Mending
mod Rising
mod Made
mod Plain
pub mod Right
