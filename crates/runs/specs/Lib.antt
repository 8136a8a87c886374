pub mod Rows
pub mod Steps
pub mod Counts
pub mod Parts
