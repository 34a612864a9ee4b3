-- A kerning table's list of subtables, in one shape for kern and kerx.
pub mod Walk
pub mod Run
pub mod Cursors
pub mod Family
pub mod Manual
