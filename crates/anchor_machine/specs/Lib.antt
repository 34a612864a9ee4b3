-- The machine of anchored marks.
pub mod Writes
pub mod Machine
pub mod Exact
pub mod Small
pub mod Manual
