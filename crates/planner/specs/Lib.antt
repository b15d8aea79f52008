-- What the operations answer and write, from the plan's bytes, in reading order. Quotations are from
-- document 01, section "Operations and causes", unless another is named. Element i stands for activity
-- i + 1. Results (what operations answer with), Numbers and Answers (the numbers of the causes and of the
-- answers), File (sets and flows) and Times (starts and crews, in the file's own terms) are what the crate
-- `promises` says the demands with: they name no operation. The others define what each operation answers
-- and leaves, and the contracts repeat them. `model` is for the code, and can be left out.
pub mod Results
pub mod Numbers
pub mod Answers
pub mod File
pub mod Times
pub mod Faults
pub mod Open
pub mod Output
pub mod Need
pub mod Verdict
pub mod Needs
pub mod Starts
pub mod Flow
pub mod Sheet
pub mod Trim
pub mod Overload
pub mod CrewCheck
pub mod model
