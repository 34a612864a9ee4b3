-- Document 01's answers, limits and refusals.
pub mod Limits
pub mod Numbers
pub mod Refuse
