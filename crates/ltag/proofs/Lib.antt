-- Laws behind the functions' proofs and the theorems.
mod Seeking
pub mod Manual
pub mod Differences
