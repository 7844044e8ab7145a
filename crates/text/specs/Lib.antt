pub mod Numbers
pub mod Bytes
pub mod Ascii
pub mod Laws
pub mod Wrote
