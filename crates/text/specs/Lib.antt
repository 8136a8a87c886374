pub mod Decimal
pub mod Cuts
