pub mod Register
pub mod Helpers
pub mod Calls
pub mod Laws
pub mod Vectors
