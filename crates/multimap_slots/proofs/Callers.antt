pub mod DensePlaces
pub mod MovedPlaces
pub mod Permuted
pub mod PlaceLists
pub mod SlotChanges
pub mod TakenItems
pub mod TapePlaces
pub mod Tapes
