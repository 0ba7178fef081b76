pub mod Copied
pub mod Copying
pub mod InPlace
pub mod Lists
pub mod NoHoles
pub mod Passing
pub mod Ranks
