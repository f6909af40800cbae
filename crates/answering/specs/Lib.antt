-- The definitions that the contracts of an answer cite.
pub mod Answers
