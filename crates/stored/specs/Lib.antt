-- Stored lines: the record of a line, the line of a record, and the entries that write and read them.
pub mod Record
pub mod Steps
pub mod Reading
pub mod Entries
pub mod Known
