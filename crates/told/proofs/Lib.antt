pub mod Tellings
pub mod Marks
