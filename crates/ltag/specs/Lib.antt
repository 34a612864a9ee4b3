-- Language tags: the crate's search for a name, and the manual's tags.
pub mod Ltag
pub mod Manual
