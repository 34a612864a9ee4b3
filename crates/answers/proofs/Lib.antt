-- Laws that the proofs of refusing functions cite.
pub mod Refusals
