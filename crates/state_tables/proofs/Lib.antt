-- Laws that the proofs of this crate and of those above cite.
mod Heads
mod Readings
pub mod Rows
pub mod Laws
pub mod Manual
pub mod Differences
pub mod Openings
pub mod Behind
