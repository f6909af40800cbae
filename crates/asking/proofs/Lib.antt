-- Laws of the questions.
pub mod Asking
pub mod Listing
pub mod Mapped
pub mod Showing
pub mod Unique
