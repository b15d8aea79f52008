-- What the crate `words` speaks of, in reading order: the binary digits of a number, the numbers below a
-- bound that have a property, the members of a number as a list, sums and largest values, lists given by
-- their elements. `model` is for the code. The laws are in `proofs/`.
pub mod Bits
pub mod Members
pub mod Listing
pub mod Sums
pub mod Tables
pub mod model
