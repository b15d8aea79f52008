-- For the code: the arcs of a type, record by record (ArcRows), the plan that a readable file says, as tables
-- (Plans), the reading of a file (Reads), what the tables hold (Said), how the code has records (Lists), the
-- phases of the reader (Phases), the waits of arcs, which are read apart (Waits).
pub mod ArcRows
pub mod Plans
pub mod Reads
pub mod Said
pub mod Lists
pub mod Phases
pub mod Waits
