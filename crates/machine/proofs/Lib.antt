-- Laws that the machines' proofs cite.
pub mod Calls
pub mod Passing
pub mod Having
pub mod Quiet
pub mod Fitting
pub mod Stalls
pub mod Turns
