pub mod Along
pub mod Covers
pub mod Puts
pub mod Counting
pub mod Parting
