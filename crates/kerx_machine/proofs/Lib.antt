-- Laws of the machine.
pub mod Bounds
pub mod Behind
