pub mod Lists
pub mod Helpers
