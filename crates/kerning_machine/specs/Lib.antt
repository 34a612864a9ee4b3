-- The machine of format 1.
pub mod Machine
pub mod Work
pub mod Inside
