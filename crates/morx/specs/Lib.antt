-- morx: the pass by kind, and the whole run.
pub mod Kinds
pub mod Indexed
pub mod RightIndex
pub mod Run
pub mod Heads
pub mod Calls
pub mod Defaults
pub mod Sequence
pub mod Memory
pub mod Work
