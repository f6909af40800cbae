-- Laws of turned pairs.
pub mod Walk
pub mod Says
pub mod Unique
