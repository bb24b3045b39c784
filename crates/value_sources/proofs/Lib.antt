-- The proofs of this crate.
pub mod Told
pub mod Orders
pub mod GivenNames
pub mod EqualFormattings
