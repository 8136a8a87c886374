pub mod Reading
pub mod Same
