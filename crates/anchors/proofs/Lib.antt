-- Laws of anchor points.
pub mod Lying
pub mod Openings
pub mod Manual
