pub mod Cuts
pub mod Asked
pub mod Credits
pub mod Cases
