-- Laws of the non-contextual pass.
mod Memos
mod Passes
pub mod Honesty
pub mod Reasons
