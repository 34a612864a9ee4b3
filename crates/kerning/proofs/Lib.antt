-- Laws that kerning's proofs cite.
pub mod Signs
pub mod Adding
pub mod Scans
pub mod Ruling
pub mod Walking
pub mod Walks
pub mod Calls
pub mod Choosing
pub mod Behind
