pub mod Choosing
pub mod Empty
pub mod Laws
