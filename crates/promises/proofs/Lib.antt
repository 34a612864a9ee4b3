pub mod Known
mod Lists
mod Alike
mod Reels
pub mod Demands
pub mod KnownMarks
pub mod KnownOrders
