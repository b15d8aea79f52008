pub mod Fields
pub mod Zeros
pub mod Records
pub mod Steps
pub mod Runs
pub mod Kept
