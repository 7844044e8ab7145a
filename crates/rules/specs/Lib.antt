pub mod Hops
pub mod Records
pub mod Verdicts
pub mod Judging
pub mod Draft
pub mod Laws
pub mod Vectors
pub mod Overrides
