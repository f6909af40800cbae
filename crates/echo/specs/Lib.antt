-- The definitions that the contracts of `echo` cite.
pub mod Line
pub mod Reply
pub mod Room
