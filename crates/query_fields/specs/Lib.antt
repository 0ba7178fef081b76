pub mod Answers
pub mod Commands
pub mod Escape
pub mod Queries
pub mod Urls
