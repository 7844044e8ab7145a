pub mod Turns
pub mod Rising
pub mod Tested
pub mod Passing
pub mod Judgements
pub mod Indices
pub mod Naming
