-- Small definitions that the other crates' definitions are written with.
pub mod Backward
pub mod Bits
pub mod Choose
pub mod Lists
pub mod Signed
