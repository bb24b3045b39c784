pub mod Placing
pub mod Sorting
pub mod Dating
pub mod Parting
