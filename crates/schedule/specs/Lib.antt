-- The meaning of the crate `schedule`, in reading order. Quotations are from document 01, sections "Earliest
-- starts" and "Crew check", unless another is named. An element stands for an activity, and elements and
-- kinds are numbered from 0: the element i is activity i + 1. The laws are in `proofs/`. `model` is for the
-- code: whoever reads for the meaning may leave it out.
pub mod Lists
pub mod Network
pub mod Starts
pub mod Checks
pub mod PeriodLoad
pub mod model
