-- Laws of a made row, and of its owners.
pub mod WordLists
pub mod Counting
pub mod Room
pub mod Making
pub mod Standing
pub mod OrderRows
pub mod Unique
