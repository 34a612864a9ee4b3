-- The shaper.
pub mod Shaper
