pub mod Insertions
pub mod Retain
