pub mod Tokens
pub mod Items
pub mod Lines
pub mod Verdicts
