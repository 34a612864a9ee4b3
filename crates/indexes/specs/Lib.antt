-- Indexes of classes.
pub mod Index
pub mod Work
