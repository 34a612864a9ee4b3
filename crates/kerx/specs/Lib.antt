-- The kerx table.
pub mod Ends
pub mod Heads
pub mod Kerx
pub mod Anchored
pub mod Indexed
pub mod RightIndex
pub mod Lent
pub mod Range
pub mod Manual
pub mod Inside
pub mod Order
