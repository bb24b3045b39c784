pub mod Requests
pub mod Order
pub mod Repeating
pub mod Positioned
pub mod Collapsing
pub mod Arranged
