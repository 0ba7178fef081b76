pub mod Mapped
pub mod Reordered
