-- State tables: the crate's reading of them, and the manual's.
pub mod States
pub mod Classes
pub mod Entries
pub mod Opened
pub mod Rows
pub mod Manual
pub mod Inside
