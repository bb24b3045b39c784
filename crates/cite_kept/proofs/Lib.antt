-- The proofs of this crate.
mod Changes
mod Unused
