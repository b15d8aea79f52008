-- For the code: loops as recursions.
pub mod Loops
