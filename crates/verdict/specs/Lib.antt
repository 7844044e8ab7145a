pub mod Helpers
pub mod Ramps
