-- mort's subtables.
pub mod Mort
