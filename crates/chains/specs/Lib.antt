-- The heads of a morx table.
pub mod Orders
pub mod Lists
pub mod Features
pub mod Entries
pub mod Walk
pub mod Followed
pub mod Manual
