-- Anchor points.
pub mod Anchors
pub mod Manual
pub mod Opened
