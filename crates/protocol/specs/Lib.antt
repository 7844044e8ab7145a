pub mod Feeding
pub mod Sessions
pub mod Vectors
