-- The definitions that the contracts of `refusal` cite, and what any answer says.
pub mod Number
pub mod Says
pub mod Reply
