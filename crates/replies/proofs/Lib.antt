-- Laws that the orders' proofs share.
pub mod Orders
pub mod Owned
pub mod Says
