-- Laws of the pass by kind and of the run.
mod Kept
mod Leaves
mod Machines
mod Indexing
pub mod SameIndex
mod Visits
mod Runs
mod Calls
pub mod Heads
pub mod Requests
pub mod Closed
mod Known
pub mod Honesty
pub mod Demand3
pub mod Memory
pub mod Older
