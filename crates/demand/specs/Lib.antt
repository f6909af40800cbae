-- What is stated over runs of calls.
pub mod Arguments
pub mod Calls
pub mod Runs
pub mod Demand
pub mod Asked
pub mod Before
pub mod Spelled
