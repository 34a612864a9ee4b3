-- The sixteen verbs, and the steps by which the code carries one out.
pub mod Verbs
pub mod Steps
pub mod Drawn
