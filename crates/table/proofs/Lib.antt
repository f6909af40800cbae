pub mod Walks
pub mod Absent
pub mod IdentityLaws
pub mod ListLaws
pub mod ShapeLaws
pub mod FieldLaws
pub mod TableLaws
pub mod Unique
