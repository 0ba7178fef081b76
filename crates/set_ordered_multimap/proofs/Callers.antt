pub mod FirstPairs
pub mod Sets
