-- What a plan file says, in reading order, beside document 01, "The plan file" (quotations are from there):
-- its records and their rules (Records), the causes of a refusal (Causes) and their numbers (Numbers), and
-- what it says in plain words (Meaning, and Refused for a refusal); when two files differ only in waits
-- (Differing), and a file without some of its arc records (Filtered). `model` is for the code, which keeps a
-- plan as tables, and can be left out. The laws are in `proofs/`.
pub mod Records
pub mod Causes
pub mod Numbers
pub mod Meaning
pub mod Refused
pub mod Differing
pub mod Filtered
pub mod model
