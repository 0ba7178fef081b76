pub mod Changes
pub mod Hops
pub mod Runs
