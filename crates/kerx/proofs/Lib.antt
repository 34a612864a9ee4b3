-- Laws of the kerx table.
mod Works
mod Goes
pub mod Cursors
pub mod Manual
mod Written
mod Anchoring
mod Marking
mod Called
pub mod SameIndex
pub mod Plain
pub mod ManualMarks
pub mod Marked
pub mod Behind
pub mod Order
