pub mod Digits
pub mod Pairs
pub mod Words
pub mod Spelling
pub mod RoundTrips
pub mod HexTexts
pub mod Wrote
