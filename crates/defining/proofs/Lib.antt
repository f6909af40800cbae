-- Laws of a define.
pub mod Downward
pub mod Entering
pub mod Making
pub mod Products
pub mod Assigning
pub mod Sums
pub mod Standing
pub mod Carried
pub mod Defining
pub mod Unique
