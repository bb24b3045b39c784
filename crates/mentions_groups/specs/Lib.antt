pub mod Groups
pub mod Classes
pub mod Suffixes
pub mod Readings
pub mod Counts
pub mod Written
pub mod Shown
