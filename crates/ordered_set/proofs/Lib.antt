-- The proofs of this crate.
pub mod Positions
pub mod Adding
