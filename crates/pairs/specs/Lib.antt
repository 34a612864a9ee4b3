-- Kerning pairs.
pub mod Pairs
pub mod Reply
pub mod Pass
pub mod Work
pub mod Manual
pub mod Joined
pub mod Inside
