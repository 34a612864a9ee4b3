-- Lookup tables: the crate's reading of them, and the manual's.
pub mod Records
pub mod Search
pub mod Lookup
pub mod Units
pub mod Opened
pub mod Whole
pub mod Survey
pub mod Order
pub mod ManualLookup
pub mod ManualUnits
pub mod Reasons
