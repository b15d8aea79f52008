-- For the code: what it holds of a plan that opens, and 7 in its turn by what a search found (Opening), the
-- writing of a flow (Records), the starts that a sheet shows (Sheets), and how Trim considers an arc
-- (Trimming).
pub mod Opening
pub mod Records
pub mod Sheets
pub mod Trimming
