pub mod Begun
pub mod Resorted
pub mod Resorting
