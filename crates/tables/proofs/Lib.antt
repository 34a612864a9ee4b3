-- Laws behind the functions' proofs and the theorems.
mod Halving
mod Pairs
mod Scanning
pub mod Surveys
pub mod Finding
pub mod Found
pub mod ManualLookup
pub mod Sizes
pub mod Reasons
pub mod Openings
mod Wholeness
pub mod Behind
