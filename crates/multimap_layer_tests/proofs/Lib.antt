pub mod CellsLemmas
pub mod TapedLemmas
