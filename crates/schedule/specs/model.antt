-- For the code: a plan's arrays (Arrays), what its structs hold (Held), what a search has found (Found), the
-- levels by which the earliest starts are found (Levels), and a load as it grows (Loads).
pub mod Arrays
pub mod Held
pub mod Found
pub mod Levels
pub mod Loads
