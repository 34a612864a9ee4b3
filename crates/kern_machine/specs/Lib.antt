-- kern format 1.
pub mod Machine
pub mod Manual
