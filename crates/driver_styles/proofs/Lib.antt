pub mod NameLists
pub mod Settled
pub mod Gathering
pub mod Suffixes
pub mod FoundPlaces
pub mod PlacedBodies
pub mod TermPlaces
pub mod Counting
