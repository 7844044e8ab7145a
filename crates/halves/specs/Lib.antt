pub mod Halves
pub mod Helpers
pub mod Laws
pub mod Vectors
