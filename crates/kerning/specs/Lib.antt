-- What the kerning of kern and of kerx share.
pub mod Additions
pub mod Line
pub mod Lists
pub mod Walks
pub mod Bounds
pub mod Choices
pub mod Heads
