-- The report (document 01, "Plans A to F"): its lines, and `report_of`, the whole of it, made of them.
pub mod Lines
pub mod Report
