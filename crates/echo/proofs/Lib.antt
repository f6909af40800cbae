-- The laws that the proofs of `echo` share.
pub mod Lines
pub mod Replies
pub mod Rest
