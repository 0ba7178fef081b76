pub mod JsonSteps
pub mod MapSteps
pub mod Parts
