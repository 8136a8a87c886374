pub mod Spans
pub mod Clips
pub mod Rows
pub mod Faults
pub mod Adds
pub mod Ranges
