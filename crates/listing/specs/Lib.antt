pub mod Format
pub mod Parsing
pub mod Listings
pub mod Entries
