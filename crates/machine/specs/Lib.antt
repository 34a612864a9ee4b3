-- What all machines share.
pub mod Stall
pub mod Head
pub mod Pass
pub mod Entry
pub mod Call
pub mod Machine
pub mod Work
