-- Laws of outgoing orders.
pub mod Pushing
pub mod Unique
