pub mod Callers
pub mod CountLemmas
pub mod Dropped
pub mod PairLemmas
pub mod WritingLemmas
