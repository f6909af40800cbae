-- The definitions that the contracts of the lent storage cite.
pub mod Lists
pub mod Storage
pub mod Lent
pub mod Halving
pub mod Places
pub mod Form
pub mod Named
pub mod Says
