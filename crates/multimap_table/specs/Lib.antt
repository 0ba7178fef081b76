pub mod Private
pub mod Table
