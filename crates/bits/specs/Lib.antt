-- What the contracts of `bits` cite, and what taking a field says.
pub mod Bits
pub mod Field
pub mod Says
pub mod Window
