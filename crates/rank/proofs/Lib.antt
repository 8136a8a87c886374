pub mod Putting
pub mod Neighbours
pub mod Deduped
pub mod Made
pub mod Laws
pub mod Holdings
