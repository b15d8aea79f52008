-- Laws of the report's lines, of what the planner answers of an accepted plan, and of the whole report.
pub mod HeadLines
pub mod FlowLines
pub mod RefusalLine
pub mod Accepted
pub mod KindLines
pub mod Whole
pub mod ReportLength
