-- What the reader's parts promise.
pub mod Reads
