-- The definitions that the contracts of `house` cite.
pub mod Hex
pub mod Heading
pub mod Says
pub mod Unpacked
pub mod Echo
pub mod Sent
