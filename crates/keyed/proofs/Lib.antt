-- The laws that the proofs of this crate and of its callers cite.
pub mod Orders
pub mod Ranks
pub mod Puts
pub mod Finds
pub mod Mapping
