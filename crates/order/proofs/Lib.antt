-- Laws of an order's lists and row.
pub mod Walks
pub mod Copying
pub mod Moves
pub mod Sorting
pub mod Ordered
pub mod ListLaws
pub mod KeyLaws
pub mod Yielded
pub mod RangeLaws
pub mod Words
pub mod Named
pub mod Recorded
pub mod Unique
