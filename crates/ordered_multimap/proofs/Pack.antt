pub mod Capacities
pub mod Packing
pub mod RelocatedKeys
