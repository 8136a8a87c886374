pub mod Sound
pub mod Hunks
pub mod Rows
pub mod Parts
pub mod Faults
