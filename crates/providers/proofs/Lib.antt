pub mod Lists
pub mod Members
pub mod Seeking
pub mod Halving
pub mod Descending
