pub mod Cleared
pub mod Filled
pub mod Put
pub mod SlotLists
