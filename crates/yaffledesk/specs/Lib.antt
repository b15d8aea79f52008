-- The answers as numbers of 64 bits, for C; what the report answers and writes.
pub mod Codes
pub mod Report
