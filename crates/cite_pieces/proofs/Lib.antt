pub mod Depths
pub mod Edges
pub mod Joined
pub mod Levels
