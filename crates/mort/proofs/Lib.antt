-- Laws of mort's two kinds.
pub mod Lent
pub mod Honesty
pub mod Passes
