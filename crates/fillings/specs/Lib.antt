pub mod Fillings
pub mod Calls
pub mod Vectors
