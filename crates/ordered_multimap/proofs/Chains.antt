pub mod Indexes
pub mod LongerLists
pub mod Named
pub mod Neighbours
pub mod Parts
pub mod StepsOver
