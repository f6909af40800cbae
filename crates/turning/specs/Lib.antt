-- The definitions that the contracts of turned pairs cite.
pub mod Turns
pub mod Says
