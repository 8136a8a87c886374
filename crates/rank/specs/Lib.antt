pub mod Ranks
pub mod Holding
pub mod Tables
pub mod Joins
pub mod Abutting
pub mod Touching
pub mod Entries
pub mod Queue
