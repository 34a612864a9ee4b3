-- The proofs about indexes of classes.
pub mod Laws
pub mod Filling
pub mod Same
