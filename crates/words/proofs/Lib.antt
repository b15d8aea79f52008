-- Laws of the definitions of `specs/`, for any n and any number of words.
pub mod Tests
pub mod Bits
pub mod Counts
pub mod Firsts
pub mod Members
pub mod Sizes
pub mod Sums
pub mod Maxima
pub mod Tables
pub mod Loops
pub mod Kept
pub mod Zipped
