pub mod Samples
pub mod Ranges
