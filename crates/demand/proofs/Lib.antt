-- Proofs over runs of calls: Demand has the theorem, Asked says that it speaks of every history.
pub mod Back
pub mod Calls
pub mod Runs
pub mod Parts
pub mod Demand
pub mod Never18
pub mod Anew
pub mod Visitor
pub mod Ownership
pub mod Leaving
pub mod Asked
pub mod Before
pub mod Spelled
