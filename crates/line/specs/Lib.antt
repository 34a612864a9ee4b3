-- The line, its test, its edits and its history.
pub mod Line
pub mod Test
pub mod Seen
pub mod Edits
pub mod Changes
pub mod Steps
pub mod Entries
pub mod History
pub mod Known
