pub mod Parts
pub mod Cuts
pub mod Arranged
pub mod Order
pub mod Cites
pub mod Adding
pub mod Listing
pub mod Laws
