pub mod Sources
pub mod Hopping
pub mod Words
pub mod Listing
pub mod Laws
