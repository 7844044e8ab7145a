pub mod Rejudging
