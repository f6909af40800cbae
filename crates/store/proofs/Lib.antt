-- Laws of the lent storage.
pub mod Rows
pub mod HalvingLaws
pub mod PlaceLaws
pub mod Parting
pub mod OneRow
pub mod LookedUp
pub mod Stretches
pub mod Tests
pub mod Groups
pub mod UpFrom
pub mod PairWalk
pub mod FormLaws
pub mod Says
pub mod Unique
