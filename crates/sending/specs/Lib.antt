-- The definitions that the contracts of outgoing orders cite.
pub mod Pushed
