-- Need, handover, resource flow, arcs kept and crew, for one kind and any number n of elements, in reading
-- order. `b i j` says that the element i is before j, `d i` is the demand of i. Quotations are from
-- document 01 unless another is named; "the paper" is document 000.
-- The theorems are in `proofs/`. Need, Handover, Flow, Kept, Breaks and Crew say what these are; Heaviest and
-- Peak are how a need and a crew at the need are found.
pub mod Need
pub mod Handover
pub mod Flow
pub mod Kept
pub mod Breaks
pub mod Crew
pub mod Heaviest
pub mod Peak
