-- The laws that the proofs of `house` share.
pub mod Hex
pub mod Headings
pub mod Says
pub mod Texts
pub mod Replies
pub mod Unique
