pub mod Rejudgements
pub mod Differences
pub mod Rerouting
pub mod Turns
