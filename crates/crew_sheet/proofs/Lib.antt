-- Laws of the sheet. MeaningHolds: its lines are in order, and each record is on exactly one line. ReadBack: what is
-- printed is read back. Filling: the lines of a page, and its bytes. Fronts: a page shows nothing else of what is lent.
-- Examples: small sheets, by computation.
-- The proofs of the code go by: Columns (numbers in columns), LinesWritten (lines, piece by piece), ByStart (records
-- by the starts of their receivers), BlockLengths (how many there are at a start), PageRecords (the records of a page,
-- found one after another).
pub mod Columns
pub mod LinesWritten
pub mod ByStart
pub mod BlockLengths
pub mod PageRecords
pub mod Filling
pub mod MeaningHolds
pub mod ReadBack
pub mod Fronts
pub mod Examples
