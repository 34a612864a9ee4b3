-- Laws that the proofs of this crate and of those above cite, and the walk that functions over a reader share.
pub mod Laws
pub mod Behind
