-- Laws of a handover.
pub mod Handing
pub mod Unique
