-- The proofs of this crate.
pub mod Views
pub mod Seen
pub mod ToldElements
pub mod Weight
pub mod Reached
pub mod Rows
pub mod FirstPlaces
pub mod NamedPlaces
pub mod Rings
