-- The definitions that the contracts of a made row cite.
pub mod Row
pub mod Owners
pub mod Fine
