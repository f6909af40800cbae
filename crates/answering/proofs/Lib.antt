-- Laws of the orders that only reply.
pub mod Answered
pub mod OneEntry
pub mod OneRow
pub mod Unique
