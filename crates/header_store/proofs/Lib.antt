pub mod Folded
pub mod Reading
