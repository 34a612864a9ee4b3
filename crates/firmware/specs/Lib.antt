-- What the exported entries leave in the numbers lent to them.
pub mod Survey
pub mod Reasons
pub mod Steps
pub mod Features
pub mod Runs
pub mod Reels
pub mod Cursors
pub mod KernCursors
pub mod KernSteps
pub mod Small
pub mod Anchored
