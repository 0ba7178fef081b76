pub mod HandsOut
pub mod KeyPops
pub mod Passed
pub mod Pops
