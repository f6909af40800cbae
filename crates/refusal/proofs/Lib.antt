-- The theorems of `refusal` beside its contracts.
pub mod Unique
