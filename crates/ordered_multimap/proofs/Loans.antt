pub mod Exact
pub mod HandsOn
pub mod LentPairs
pub mod Options
pub mod Outlived
pub mod Rested
pub mod WalkRenamed
