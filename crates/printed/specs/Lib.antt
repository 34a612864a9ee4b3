-- How a line is printed.
pub mod Printed
