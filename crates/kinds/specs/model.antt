-- For the code: records as they are written one after another, and the units that they tell.
-- That this comes to the records of `Flows` is a law.
pub mod Writing
pub mod Passing
