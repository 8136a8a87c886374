pub mod Validity
pub mod Walks
