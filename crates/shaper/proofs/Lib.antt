-- Laws of the shaper.
pub mod Shaping
pub mod Honesty
