-- Laws of kerning pairs.
mod Scans
pub mod Passes
pub mod Manual
pub mod Reasons
pub mod Joined
pub mod Behind
