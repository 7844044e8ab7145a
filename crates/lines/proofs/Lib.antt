pub mod Marks
pub mod Words
pub mod Lists
pub mod Readings
