pub mod ReadLaws
pub mod FillLaws
pub mod RefusalLaws
pub mod Going
pub mod Unique
