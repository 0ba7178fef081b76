pub mod EqualPairs
pub mod TakenApart
pub mod TakenOut
pub mod WalkedLists
