-- The theorems on need, handover, resource flow, arcs kept and crew. `Theorems` has their statements; the other files
-- prove them. `Rows`, `Units`, `First` and `Pairs` are what callers ask besides: of sums that loops add up, of the
-- units between nodes, of the first n elements, of how many pairs carry units.
pub mod Theorems
pub mod Need
pub mod Weak
pub mod Strong
pub mod Flow
pub mod Kept
pub mod Crew
pub mod Rows
pub mod Units
pub mod First
pub mod Pairs
