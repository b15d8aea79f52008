-- The crew sheet, in reading order: its lines and pages, what a reader of it can rely on, what is
-- printed on a line, and a page under way. Quotations are from document 02, change 1. The laws are in
-- `proofs/`. `model` is for the code.
pub mod Sheet
pub mod Meaning
pub mod Printed
pub mod Underway
pub mod model
