pub mod Order
pub mod Ties
