pub mod Around
pub mod Ended
pub mod Late
pub mod Refilled
pub mod Renamed
pub mod Tokens
