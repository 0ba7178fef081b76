pub mod Along
pub mod Chains
pub mod Ends
pub mod Paths
pub mod Squashed
