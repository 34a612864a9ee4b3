-- Laws that the other crates' proofs cite.
pub mod Choices
pub mod Numbers
pub mod Lists
pub mod Parts
pub mod Backward
pub mod Signed
