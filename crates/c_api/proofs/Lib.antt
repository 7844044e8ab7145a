pub mod Tellings
pub mod Laws
