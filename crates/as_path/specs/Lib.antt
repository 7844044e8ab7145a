pub mod Segments
pub mod Faults
pub mod Grounds
pub mod Merging
pub mod Reading
pub mod Laws
pub mod Helpers
pub mod Vectors
