-- The names of the layout, for definitions.
pub mod Layout
