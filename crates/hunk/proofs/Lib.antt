pub mod Searches
pub mod Cuts
pub mod Owing
pub mod Passes
pub mod Adds
pub mod Checks
pub mod Rowwise
pub mod Laid
