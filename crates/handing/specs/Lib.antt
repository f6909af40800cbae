-- The definitions that the contracts of a handover cite.
pub mod Tests
