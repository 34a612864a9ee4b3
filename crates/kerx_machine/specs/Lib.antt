-- kerx format 1.
pub mod Machine
pub mod Inside
