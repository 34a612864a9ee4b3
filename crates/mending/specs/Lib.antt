-- How a table is printed.
pub mod Hex
