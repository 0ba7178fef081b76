pub mod OrInserted
pub mod Reread
pub mod Reserved
pub mod Rooms
pub mod Runs
pub mod Walked
