pub mod Entries
pub mod Layout
