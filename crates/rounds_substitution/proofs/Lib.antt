-- The proofs of this crate.
pub mod Removing
pub mod Leading
pub mod Gathering
pub mod Replacing
pub mod Counting
pub mod Planning
pub mod Staying
pub mod Latest
