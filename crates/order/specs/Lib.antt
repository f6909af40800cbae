-- The definitions that the contracts of an order's lists and row cite.
pub mod Walks
pub mod Numbers
pub mod Lists
pub mod Keys
pub mod Rising
pub mod Row
pub mod Recorded
pub mod Steps
