pub mod Callers
pub mod JsonValues
pub mod Running
pub mod Texts
