pub mod Paths
pub mod Slots
pub mod Checking
pub mod Stamping
pub mod Accessing
