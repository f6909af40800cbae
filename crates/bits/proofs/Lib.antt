-- The laws of bits and fields, and those of the whole bytes that a field lies in; what taking a field says; the steps of a walk that holds a reader.
pub mod Laws
pub mod Says
pub mod Windows
pub mod Unique
