pub mod Entries
pub mod Laws
pub mod Table
pub mod TableView
pub mod Listed
pub mod ListingView
pub mod StandsAt
pub mod PlacedItems
