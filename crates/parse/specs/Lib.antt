-- Big-endian numbers in a table.
pub mod Bytes
pub mod Reads
pub mod Use
pub mod Parts
