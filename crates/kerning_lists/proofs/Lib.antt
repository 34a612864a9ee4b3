-- Laws of runs over kerning lists.
pub mod Turns
pub mod Tests
pub mod Runs
pub mod Starts
pub mod Cursors
pub mod Calls
pub mod Families
pub mod Manual
