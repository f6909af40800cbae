-- The definitions that the contracts of a list cite.
pub mod Listed
