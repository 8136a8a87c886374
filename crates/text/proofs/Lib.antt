pub mod Firsts
pub mod Digits
pub mod Cutting
