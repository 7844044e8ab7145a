pub mod Answers
pub mod Helpers
pub mod Marks
