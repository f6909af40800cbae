-- What holds of the contracts.
pub mod Unique
