-- The definitions that the contracts of `text` cite.
pub mod Digits
pub mod Text
pub mod Put
