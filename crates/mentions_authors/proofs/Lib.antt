pub mod Beginning
pub mod Writing
pub mod Repeating
