pub mod Characters
pub mod Cut
pub mod Fields
pub mod Formatted
pub mod Lines
pub mod Numbers
pub mod Reads
pub mod Spelled
