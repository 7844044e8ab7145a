-- The laws that the proofs of this crate and of its callers cite.
pub mod Positions
pub mod Counts
pub mod Steps
pub mod Searches
pub mod Laws
