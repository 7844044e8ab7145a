pub mod Choosing
pub mod ReadingBack
