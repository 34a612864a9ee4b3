-- What is promised: a record of theorems for each demand.
pub mod Known
pub mod Lists
pub mod Demand1
pub mod Demand2
pub mod Demand3
pub mod KnownMarks
pub mod KnownOrders
