pub mod FirstLemmas
pub mod GivenLemmas
pub mod MovedLemmas
pub mod PackedForm
pub mod StoppedKeysLemmas
pub mod StoppedLemmas
pub mod TotalLemmas
pub mod WalkShows
