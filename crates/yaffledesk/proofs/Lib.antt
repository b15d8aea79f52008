-- Laws of the answers as numbers: CodeBounds (each has 64 bits, and so has the set shown), Numbers (the low 8 bits are
-- document 01's number). Reports is how the report ends.
pub mod CodeBounds
pub mod Numbers
pub mod Reports
