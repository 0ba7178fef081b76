pub mod Relinked
pub mod OneMove
pub mod Dense
pub mod Lowered
pub mod LoweredKeys
pub mod LoweredLinks
