pub mod Answers
pub mod Chains
pub mod DrainSteps
pub mod Drains
pub mod Dropped
pub mod EndKeys
pub mod KeptByDrains
