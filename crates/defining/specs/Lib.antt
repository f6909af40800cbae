-- The definitions that the contracts of a define cite.
pub mod Parts
pub mod Putting
pub mod Pairs
pub mod Joining
pub mod Groups
pub mod Carried
pub mod Sent
pub mod Totals
pub mod Tests
