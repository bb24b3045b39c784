pub mod Members
pub mod Nesting
pub mod NonZero
pub mod ListFaults
