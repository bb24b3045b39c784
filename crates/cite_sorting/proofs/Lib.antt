-- The proofs of this crate.
pub mod Groups
pub mod Runs
