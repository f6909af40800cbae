-- Laws of the words of a line, samples, and that each contract allows one outcome.
pub mod Words
pub mod Values
pub mod Short
pub mod Lists
pub mod Laws
pub mod Says
pub mod Samples
pub mod Unique
