pub mod Growing
pub mod Kept
