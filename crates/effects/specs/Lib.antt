pub mod Calls
pub mod Helpers
pub mod Vectors
pub mod Laws
pub mod Local
