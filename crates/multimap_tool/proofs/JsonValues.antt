pub mod BothLists
pub mod EqualParts
pub mod Faults
pub mod Shapes
