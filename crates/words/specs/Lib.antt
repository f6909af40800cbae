-- The definitions that the contracts of `words` cite.
pub mod Character
pub mod Words
pub mod Series
pub mod Says
