pub mod FirstValue
pub mod OneKey
pub mod Rewriting
pub mod Updates
