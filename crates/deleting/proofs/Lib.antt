-- Laws of a delete.
pub mod DeassignedLaws
pub mod Deletes
pub mod Unique
