-- Mending a lookup table of format 2 or 6 whose records are out of order.
pub mod Kept
pub mod Table
pub mod Mend
pub mod Looks
pub mod Telling
