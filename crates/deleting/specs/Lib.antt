-- The definitions that the contracts of a delete cite.
pub mod Deassigned
pub mod Deletes
