pub mod Trimming
pub mod Spacing
pub mod Lookups
pub mod Snapshots
