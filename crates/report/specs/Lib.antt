-- The report on kerned lines.
pub mod Numbers
pub mod Report
pub mod Extremes
pub mod Work
pub mod Choices
