-- What the writer's parts promise.
pub mod Pass
pub mod Lay
pub mod Found
pub mod Goes
pub mod Whole
