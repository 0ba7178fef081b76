pub mod Answered
pub mod Changed
pub mod Fields
pub mod Message
pub mod Written
