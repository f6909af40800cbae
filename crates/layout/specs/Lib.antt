-- What a frame is: its rows, the tables, reading and writing, its length, and what the reader and the writer answer.
pub mod Row
pub mod Shape
pub mod Words
pub mod Table
pub mod Kinds
pub mod Read
pub mod Write
pub mod Frame
pub mod Says
pub mod Length
pub mod Longest
pub mod Largest
pub mod Figures
pub mod Fullest
pub mod Where
pub mod Chain
