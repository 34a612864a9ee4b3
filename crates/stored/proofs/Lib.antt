-- Laws of stored lines.
pub mod Written
pub mod Tests
pub mod Got
pub mod Calls
pub mod Exact
pub mod Records
pub mod Versions
pub mod Known
