-- Laws of the report.
pub mod Sums
pub mod Testing
pub mod Scanning
pub mod Calls
pub mod Writing
pub mod Extremes
