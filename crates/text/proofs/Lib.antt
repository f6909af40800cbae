-- The laws that the proofs of `text` cite; replies as the documents print them; that each contract leaves one outcome.
pub mod Puts
pub mod Walks
pub mod Texts
pub mod Samples
pub mod Unique
