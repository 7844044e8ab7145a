pub mod Commands
pub mod Performing
pub mod Lent
