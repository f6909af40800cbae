-- What the code's tables and its tests of a record promise.
pub mod Fields
pub mod Sound
