pub mod Linked
pub mod Following
pub mod Suffixed
pub mod ReadAround
pub mod Placed
pub mod Law
pub mod ReadNumbers
pub mod ReadSuffixes
