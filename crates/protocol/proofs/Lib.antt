pub mod Holding
pub mod Joining
pub mod Performing
pub mod Feedings
pub mod Cutting
