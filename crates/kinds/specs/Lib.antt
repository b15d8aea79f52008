-- The kinds of worker of a plan, in reading order. Quotations are from document 01.
-- Kind k stands for kind k + 1 of the file, and the element i for activity i + 1.
-- The laws are in `proofs/`. `model` is for the code.
pub mod Needs
pub mod Flows
pub mod Reading
pub mod model
