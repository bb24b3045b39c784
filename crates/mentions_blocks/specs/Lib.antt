pub mod Blocks
pub mod Firsts
pub mod Parts
pub mod Years
pub mod Collapsed
