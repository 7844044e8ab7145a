pub mod Routes
pub mod Calls
pub mod Helpers
pub mod Laws
pub mod Vectors
